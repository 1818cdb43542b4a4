-- Powers that ascend from 0 on, and such a list with one power replaced, by minima and maxima alone. Definitions only.
use Rattle.std.specs.Prelude.{◌≡◌, Bool, true, false, cond, not, ◌&&◌, List, [], ◌∷◌, ℕ, ◌≤◌, T, Float}
use Rattle.std.specs.Float.{nan, inf, fin, binary32, binary64}
use Rattle.std.specs.Float.Ieee.{fits, lt, of_bits}
use Rattle.ieee.specs.Plain.{key}

-- ---- the test

-- a and the first pass a test, and so do each and the next
unfoldable pub climbs : (Float → Float → Bool) → Float → List Float → Bool
climbs by a [] = true
climbs by a (b ∷ l) = by a b && climbs by b l

-- ---- what it says

-- no NaN, and not below 0: a zero may have a sign
abbrev pub NotNegative : Float → Type 0
NotNegative nan = ⊥
NotNegative (inf s) = T (not s)
NotNegative (fin false m e) = Unit {0}
NotNegative (fin true m e) = m ≡ 0

-- a value of binary32
abbrev pub Held : Float → Type 0
Held x = T (fits binary32 x)

-- such powers, each at least as great as the one before, the first at least n of the format's smallest values
abbrev pub Rising : ℕ → List Float → Type 0
Rising n [] = Unit {0}
Rising n (a ∷ l) = NotNegative a × Held a × (n ≤ key binary32 a) × Rising (key binary32 a) l

-- ---- one power replaced

abbrev pub least : Float → Float → Float
least a b = cond (lt a b) a b

abbrev pub most : Float → Float → Float
most a b = cond (lt a b) b a

-- with `old` gone, b comes in the place of an a that is not below it
abbrev pub moved : Float → Float → Float → Float
moved old a b = cond (lt a old) a b

-- the powers behind a and b, where `old` goes and p comes
unfoldable pub blended_from : Float → Float → Float → Float → List Float → List Float
blended_from old p a b [] = most (moved old a b) p ∷ []
blended_from old p a b (c ∷ l) = least (moved old b c) (most (moved old a b) p) ∷ blended_from old p b c l

-- all of them
unfoldable pub blended : Float → Float → List Float → List Float
blended old p [] = []
blended old p (a ∷ []) = p ∷ []
blended old p (a ∷ b ∷ l) = least (moved old a b) p ∷ blended_from old p a b l

-- ---- a power that is not flagged

-- 32.0, above the number of powers that are kept
abbrev pub thirty_two : Float
thirty_two = of_bits binary64 0x4040_0000_0000_0000
