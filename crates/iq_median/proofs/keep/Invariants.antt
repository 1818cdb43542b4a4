-- `iq_median::keep` moves the words that are kept to the front, one a turn. Assumes nothing.
use Rattle.std.proofs.Common.{◌≡◌, ◌≤◌, Bool, Float}
use Rattle.iq_median.proofs.Selecting.{Kept}
use Rattle.iq_median.proofs.keep.Given as goal

abbrev pub invariant-loop-k : goal.invariant-loop-k
invariant-loop-k g l =
    (l.kept ≤ l.k)
    × ((t : Float → Bool) → ((x : Float) (b : Bool) → goal.F-post g l.keeps x b → b ≡ t x) → Kept t l.initial.part l.part l.k l.kept)
