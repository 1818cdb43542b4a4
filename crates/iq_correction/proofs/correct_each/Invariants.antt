-- `iq_correction::correct_each`: what is written before place k, and what is left from k on, give the same. Assumes nothing.
use Rattle.complex.specs.View.{view64}
use Rattle.rules.specs.Iq.{corrected}
use Rattle.iq_correction.specs.Groups.{Mapping}
use Rattle.iq_correction.proofs.correct_each.Given as goal

abbrev pub invariant-loop-w : goal.invariant-loop-w
invariant-loop-w l = Mapping (corrected (view64 l.rho)) l.initial.samples l.samples l.w-index
