-- `iq_correction::try_group` meets its contract. The invariant: what stands before place j is right, if the mark so far says so. Assumes nothing.
use Rattle.complex.specs.View.{view64}
use Rattle.rules.specs.Iq.{corrected}
use Rattle.iq_correction.proofs.laws.GroupRuns.{Trying}
use Rattle.iq_correction.proofs.try_group.Given as goal

abbrev pub invariant-loop-j : goal.invariant-loop-j
invariant-loop-j l = Trying (corrected (view64 l.rho)) l.part l.out l.mark l.j
