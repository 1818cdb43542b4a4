-- Sorting by an order `lt`: an element goes before the first that is not below it, and is taken out where the first equal stands. Definitions only.
use Rattle.std.specs.Prelude.{Bool, cond, List, [], ◌∷◌}

module _ {A : Type 0} (lt : A → A → Bool) where
  unfoldable pub insert : A → List A → List A
  insert a [] = a ∷ []
  insert a (c ∷ l) = let rest = c ∷ insert a l in cond (lt c a) rest (a ∷ c ∷ l)

  unfoldable pub remove : A → List A → List A
  remove a [] = []
  remove a (c ∷ l) = let rest = c ∷ remove a l in cond (lt c a) rest l

  -- ascending
  unfoldable pub sort : List A → List A
  sort [] = []
  sort (a ∷ l) = insert a (sort l)
