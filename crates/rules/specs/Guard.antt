-- Document 01, 'Guard', and guarding. A sample is a word. Definitions only.
use Rattle.std.specs.Prelude.{Bool, false, not, ◌&&◌, cond, List, [], ◌∷◌, map, ℕ, suc, ◌+◌, T, Float}
use Rattle.std.specs.Float.{nan, inf, fin}
use Rattle.std.specs.Float.Ieee.{le}
use Rattle.complex.specs.Complex.{sample_of}
use Rattle.rules.specs.Constants.{usable_limit}
use Rattle.rules.specs.Lists.{indicator, All}

-- the size of a number
unfoldable pub magnitude : Float → Float
magnitude nan = nan
magnitude (inf s) = inf false
magnitude (fin s m e) = fin false m e

-- 'A part is usable if its size is at most 1.0e17 (the f32 constant); NaN isn't.'
unfoldable pub usable_part : Float → Bool
usable_part x = le (magnitude x) usable_limit

unfoldable pub usable : ℕ → Bool
usable w = usable_part (sample_of w).re && usable_part (sample_of w).im

-- the first place of a sample that is not usable, counted from k on, and where the list ends if there is none
unfoldable pub first_unusable_from : ℕ → List ℕ → ℕ
first_unusable_from k [] = k
first_unusable_from k (w ∷ ws) = let rest = first_unusable_from (suc k) ws in cond (usable w) rest k

-- 'Guarding replaces unusable samples by 0 and counts them.'
unfoldable pub guarded : List ℕ → List ℕ
guarded ws = map (λ w. cond (usable w) w 0) ws

unfoldable pub unusable : List ℕ → ℕ
unusable [] = 0
unusable (w ∷ ws) = indicator (not (usable w)) + unusable ws

-- every sample is usable
abbrev pub Usable : List ℕ → Type 0
Usable xs = All (λ w. T (usable w)) xs
