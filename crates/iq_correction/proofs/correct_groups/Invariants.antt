-- `iq_correction::correct_groups`: what is written before a group, and what is left from it on, give the same. Assumes nothing.
use Rattle.std.proofs.Common.{◌*◌}
use Rattle.complex.specs.View.{view64}
use Rattle.rules.specs.Iq.{corrected}
use Rattle.iq_correction.specs.Groups.{Mapping}
use Rattle.iq_correction.proofs.correct_groups.Given as goal

abbrev pub invariant-loop-g : goal.invariant-loop-g
invariant-loop-g l = Mapping (corrected (view64 l.rho)) l.initial.samples l.samples (16 * l.g)
