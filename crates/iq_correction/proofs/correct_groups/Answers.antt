-- `iq_correction::correct_groups`: what is written before a group, and what is left from it on, give the same. Assumes nothing.
use Rattle.std.proofs.Common.{◌≡◌, ◌+◌, ◌*◌, ◌-◌, arith}
use Rattle.iq_correction.proofs.laws.Maps.{mapping_start}
use Rattle.iq_correction.proofs.laws.GroupRuns.{mapping_part}
use Rattle.iq_correction.proofs.correct_groups.Goals as goal

pub loop-g-init : goal.loop-g-init
loop-g-init c = mapping_start _ _

pub loop-g-preserved : goal.loop-g-preserved
loop-g-preserved c =
    let l = c.loop-g in
    let s = l.invariant.same in
    let e : 16 * l.g + 16 - 16 * l.g ≡ 16 = omega arith in
    mapping_part _ _ l.samples _ (16 * l.g) _ (16 * (l.g + 1)) e (omega arith) (omega arith) c.correct_group.ensures l.invariant
