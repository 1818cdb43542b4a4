-- The stages by themselves: the word lent for a place. Definitions only.
use Rattle.std.specs.Prelude.{List, [], ◌∷◌, ℕ}

-- the place that comes behind a number is written; where there is none the word stays
abbrev pub place_after : ℕ → List ℕ → ℕ
place_after was [] = was
place_after was (n ∷ []) = was
place_after was (n ∷ place ∷ r) = place
