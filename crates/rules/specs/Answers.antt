-- How an operation is answered, in document 01's words: with a value, by nothing, or with what the table returns. Definitions only.
use Rattle.std.specs.Prelude.{Bool, true, false, List, [], ◌∷◌, ℕ}

pub data Said (A : Type 0) : Type 0 where
  accepted : A → Said A
  nothing : Said A
  refused : List ℕ → Said A

abbrev pub is_accepted : {A : Type 0} → Said A → Bool
is_accepted (accepted v) = true
is_accepted nothing = false
is_accepted (refused r) = false

-- the number in what the table returns, which comes first, and 0 where it returns nothing
abbrev pub number_in : List ℕ → ℕ
number_in [] = 0
number_in (n ∷ r) = n

-- the number of a refusal, and 0 where there is none
abbrev pub number_of : {A : Type 0} → Said A → ℕ
number_of (accepted v) = 0
number_of nothing = 0
number_of (refused r) = number_in r
