-- `iq_correction::uncorrect_each` is the map of `uncorrected_by`. Assumes nothing.
use Rattle.std.proofs.Common.{arith}
use Rattle.iq_correction.proofs.laws.Maps.{mapping_start, mapping_next, mapping_end}
use Rattle.iq_correction.proofs.uncorrect_each.Goals as goal

pub loop-w-init : goal.loop-w-init
loop-w-init c = mapping_start _ _

pub loop-w-preserved : goal.loop-w-preserved
loop-w-preserved c = mapping_next _ _ _ _ _ (omega arith) c.uncorrect.ensures c.loop-w.invariant

pub returns : goal.returns
returns c = mapping_end _ _ _ _ (omega arith) c.loop-w.invariant
