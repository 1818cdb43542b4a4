-- A sorted place looked for by narrowing the words that may hold it: which words pass a test, what a search stands at, and what it finds. Definitions only.
use Rattle.std.specs.Prelude.{◌≡◌, Bool, cond, List, [], ◌∷◌, ℕ, ◌+◌, ◌≤◌, ◌<◌, length, get_or, take, Float}
use Rattle.std.specs.Float.{nan, binary64}
use Rattle.std.specs.Float.Ieee.{lt}
use Rattle.ieee.specs.Plain.{Plain}
use Rattle.rules.specs.Sort.{sort}
use Rattle.rules.specs.Lists.{All}
use Rattle.iq_median.specs.declared.Search.{Search}

-- the elements that pass a test, in order
unfoldable pub passing : {A : Type 0} → (A → Bool) → List A → List A
passing t [] = []
passing t (x ∷ xs) = let rest = passing t xs in cond (t x) (x ∷ rest) rest

abbrev pub below_of : Float → List Float → List Float
below_of p l = passing (λ x. lt x p) l

abbrev pub above_of : Float → List Float → List Float
above_of p l = passing (λ x. lt p x) l

-- the words among which a search stands, sorted
abbrev pub sorted_in : List Float → Search → List Float
sorted_in l s = sort lt (take s.count l)

-- the place is one of the window, whose words have a total order
pub record Window (l : List Float) (s : Search) : Type 0 where
  pub most : s.count ≤ length l
  pub inside : s.place < s.count
  pub plain : All (Plain binary64) (take s.count l)

-- and it can be narrowed by p
pub record Turning (l : List Float) (s : Search) (p : Float) : Type 0 where
  pub window : Window l s
  pub pivot : Plain binary64 p
  pub many : 1 < s.count
  pub turns : 0 < s.left

-- a turn from s to t: from the place on, t has the words that s has
pub record Narrowed (l : List Float) (s : Search) (m : List Float) (t : Search) : Type 0 where
  pub window : Window m t
  pub room : t.count + s.place ≤ s.count + t.place
  pub same : (i : ℕ) → t.place + i < t.count → get_or (sorted_in m t) (t.place + i) nan ≡ get_or (sorted_in l s) (s.place + i) nan
  pub turns : t.left + 1 ≡ s.left

-- what is found for a place of the list l: in m it and what follows it stand sorted
pub record Selected (l : List Float) (place : ℕ) (m : List Float) (s : Search) : Type 0 where
  pub most : s.count ≤ length m
  pub inside : s.place < s.count
  pub same : (i : ℕ) → s.place + i < s.count → get_or m (s.place + i) nan ≡ get_or (sort lt l) (place + i) nan

-- the lower of x and the least so far, where x is above p
abbrev pub lower_of : Float → Float → Float → Float
lower_of p x least = cond (lt p x) (cond (lt least x) least x) least

-- the least element above p, a NaN if there is none
unfoldable pub least_above : Float → List Float → Float
least_above p [] = nan
least_above p (x ∷ xs) = lower_of p x (least_above p xs)
