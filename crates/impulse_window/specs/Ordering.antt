-- An ordered array by places: where a power goes, and the array with a gap moved. Definitions only.
use Rattle.std.specs.Prelude.{Bool, cond, List, [], ◌∷◌, ◌++◌, ℕ, zero, suc, take, drop}

-- how many stand before the first that is not below p
unfoldable pub rank : {A : Type 0} → (A → A → Bool) → A → List A → ℕ
rank lt p [] = 0
rank lt p (c ∷ l) = let more = suc (rank lt p l) in cond (lt c p) more 0

-- the list without what is at place i
unfoldable pub without : {A : Type 0} → List A → ℕ → List A
without [] i = []
without (c ∷ l) zero = l
without (c ∷ l) (suc i) = c ∷ without l i

-- p put in before place i
abbrev pub put_in : {A : Type 0} → List A → ℕ → A → List A
put_in l i p = take i l ++ (p ∷ drop i l)
