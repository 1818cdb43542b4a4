-- `iq_median::copy_powers`: what stands before place k is copied. Assumes nothing.
use Rattle.std.proofs.Common.{◌≡◌, ℕ, ◌<◌, get_or}
use lib.Ieee.{nan}
use Rattle.iq_median.proofs.copy_powers.Given as goal

abbrev pub invariant-loop-k : goal.invariant-loop-k
invariant-loop-k l = (j : ℕ) → j < l.k → get_or l.spare j nan ≡ get_or l.powers j nan
