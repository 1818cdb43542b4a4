-- `iq_median::all_plain` counts the words that are not plain. Assumes nothing.
use mathlib.Core.Path.{◌≡◌}
use mathlib.Core.Bool.{◌&&◌}
use Prim.Native.Nat.{◌≤◌}
use lib.Dec.{T, eqb}
use lib.ListN.{length, take, drop}
use lib.Ieee.{binary64, fits}
use Rattle.ieee.specs.Plain.{sign_clear}
use Rattle.rules.specs.Lists.{All}
use Rattle.rules.specs.Lists.{all_of}
use Rattle.iq_median.proofs.all_plain.Given as goal

abbrev pub invariant-loop-x : goal.invariant-loop-x
invariant-loop-x l = (l.x-index ≤ length l.part) × (l.others ≤ l.x-index) × ((eqb l.others 0 && all_of sign_clear (drop l.x-index l.part)) ≡ all_of sign_clear l.part)
    × All (λ x. T (fits binary64 x)) (take l.x-index l.part)
