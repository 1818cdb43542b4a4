-- Lists by an index. Definitions only.
use Rattle.std.specs.Prelude.{Bool, true, ◌&&◌, cond, List, [], ◌∷◌, ◌++◌, ℕ, zero, suc, ◌+◌, get_or}

-- f 0, .., f (n - 1)
unfoldable pub up_to : {A : Type 0} → (ℕ → A) → ℕ → List A
up_to f zero = []
up_to f (suc n) = up_to f n ++ (f n ∷ [])

-- 1 if it is so, and 0 if not
abbrev pub indicator : Bool → ℕ
indicator b = cond b 1 0

-- how many of a, .., a + n - 1 pass a test
unfoldable pub count : (ℕ → Bool) → ℕ → ℕ → ℕ
count F a zero = 0
count F a (suc n) = indicator (F (a + n)) + count F a n

-- element k of a list of numbers, and 0 past its end
abbrev pub at : List ℕ → ℕ → ℕ
at xs k = get_or xs k 0

-- every element passes a test
unfoldable pub all_of : {A : Type 0} → (A → Bool) → List A → Bool
all_of p [] = true
all_of p (x ∷ xs) = p x && all_of p xs

-- of every element it holds
abbrev pub All : {A : Type 0} → (A → Type 0) → List A → Type 0
All P [] = Unit {0}
All P (x ∷ xs) = P x × All P xs
