-- `impulse::runs::between` meets its contract. Assumes nothing.
use Prim.Native.Nat.{ℕ, ◌+◌, ◌≤◌, ◌^◌}
use native.Mathlib.Omega.{arith}
use lib.Dec.{T, le→leb}
use lib.IntN.{pos}
use lib.Ieee.{binary32, in_float}
use Rattle.rules.specs.Impulse.{between}
use Rattle.impulse.proofs.runs.between.Goals as goal

small : (n : ℕ) → n ≤ 9 → T (in_float binary32 (pos n))
unfolding in_float
small n h = le→leb n (2 ^ 24) (omega arith)

pub int_to_float-fraction : goal.int_to_float-fraction
int_to_float-fraction c = small (c.args.t + 1) (omega arith)

pub int_to_float-fraction-2 : goal.int_to_float-fraction-2
int_to_float-fraction-2 c = small (c.args.n + 1) (omega arith)

pub returns : goal.returns
unfolding between
returns c = simp (c.add.ensures, c.scale.ensures, c.sub.ensures)
