-- `iq_correction::uncorrect_each`: what is written before place k, and what is left from k on, give the same. Assumes nothing.
use Rattle.complex.specs.View.{view64}
use Rattle.iq_correction.specs.Groups.{Mapping}
use Rattle.iq_correction.specs.Undo.{uncorrected_by}
use Rattle.iq_correction.proofs.uncorrect_each.Given as goal

abbrev pub invariant-loop-w : goal.invariant-loop-w
invariant-loop-w l = Mapping (uncorrected_by (view64 l.rho) l.divisor) l.initial.samples l.samples l.w-index
