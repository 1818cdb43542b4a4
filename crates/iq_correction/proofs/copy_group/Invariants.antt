-- `iq_correction::copy_group`: what stands before place j is copied. Assumes nothing.
use Rattle.std.proofs.Common.{◌≡◌, ℕ, ◌<◌, get_or}
use Rattle.iq_correction.proofs.copy_group.Given as goal

abbrev pub invariant-loop-j : goal.invariant-loop-j
invariant-loop-j l = (k : ℕ) → k < l.j → get_or l.part k 0 ≡ get_or l.from k 0
