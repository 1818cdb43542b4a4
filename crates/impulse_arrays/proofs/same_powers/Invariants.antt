-- `impulse_arrays::same_powers` meets its contract: each power before number k has the same bits. Assumes nothing.
use mathlib.Core.Path.{◌≡◌}
use mathlib.Core.Bool.{Bool, true}
use mathlib.Core.List.{List}
use Prim.Native.Nat.{ℕ}
use lib.Dec.{eqb}
use lib.ListN.{get_or}
use lib.Ieee.{Float, binary64, to_bits}
use Rattle.rules.specs.Constants.{zero_f}
use Rattle.stage_log.specs.Check.{all_to}
use Rattle.impulse_arrays.proofs.same_powers.Given as goal

abbrev pub test : List Float → List Float → ℕ → Bool
test xs ys k = eqb (to_bits binary64 (get_or xs k zero_f)) (to_bits binary64 (get_or ys k zero_f))

abbrev pub invariant-loop-k : goal.invariant-loop-k
invariant-loop-k l = all_to (test l.sorted l.wide) l.k ≡ true
