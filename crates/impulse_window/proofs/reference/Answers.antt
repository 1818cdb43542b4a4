-- `impulse_window::reference` meets its contract. Assumes nothing.
use Prim.Native.Nat.{ℕ, ◌≤◌, ◌^◌}
use native.Mathlib.Omega.{arith}
use lib.Dec.{T, le→leb}
use lib.IntN.{pos}
use lib.ListN.{length}
use lib.Ieee.{binary64, in_float}
use Rattle.rules.specs.Impulse.{window_size}
use Rattle.impulse_window.specs.Ordered.{mean}
use Rattle.impulse_window.proofs.reference.Goals as goal

small : (n : ℕ) → n ≤ window_size → T (in_float binary64 (pos n))
unfolding in_float
small n h = le→leb n (2 ^ 53) (omega arith)

pub int_to_float-result : goal.int_to_float-result
int_to_float-result c = small (length c.args.powers.now) c.requires

pub returns : goal.returns
unfolding mean
returns c = rw c.sum.ensures
