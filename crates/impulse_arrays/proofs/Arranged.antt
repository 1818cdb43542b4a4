-- A list of different powers in order, each of which occurs in a window that is as long, is that window sorted. Assumes nothing.
use mathlib.Core.Path.{◌≡◌, refl, sym, ap, ◌∙◌, subst}
use mathlib.Core.Bool.{Bool, true, false, ◌||◌}
use mathlib.Core.List.{List, [], ◌∷◌, ◌++◌}
use mathlib.Core.Logic.{◌⊎◌, inl, inr}
use Prim.Native.Nat.{ℕ, suc, ◌≤◌, ◌<◌}
use native.Mathlib.Omega.{arith}
use lib.Dec.{T, ltb}
use lib.ListN.{length, get_or, take, length-append}
use lib.Seq.{take-suc}
use lib.Ieee.{Float, binary32, lt, eq}
use lib.Ieee.Bits.{is_true}
use borrow.Author.Tests.{ltb-true}
use Rattle.ieee.specs.Plain.{sign_clear, Plain, key}
use Rattle.ieee.proofs.laws.Order.{lt_key, same_key, plain_equal}
use Rattle.rules.specs.Constants.{zero_f}
use Rattle.rules.specs.Sort.{insert, sort}
use Rattle.rules.proofs.laws.SortLaws.{Ordered, is_not_below, insert_comm, sort_good}
use Rattle.rules.specs.Lists.{All}
use Rattle.impulse_window.specs.Rising.{climbs, NotNegative, Held}
use Rattle.impulse_window.proofs.Sizes.{abs, abs_plain, abs_key, clear, both_true, lt_size, no_size, equal_abs}
use Rattle.impulse_window.proofs.Blends.{zero_held, zero_not_negative}
use Rattle.impulse_arrays.specs.Occurs.{occurs}

-- ---- the test by places

either : (x y z : Bool) → (x || (y || z)) ≡ (x || y || z)
either true y z = refl
either false y z = refl

alone : (x : Bool) → (x || false) ≡ x
alone true = refl
alone false = refl

occurs_snoc : (x : Float) (l : List Float) (y : Float) → occurs x (l ++ (y ∷ [])) ≡ (occurs x l || eq x y)
unfolding occurs
occurs_snoc x [] y = alone (eq x y)
occurs_snoc x (z ∷ l) y = ap (λ (t : Bool). eq x z || t) (occurs_snoc x l y) ∙ either (eq x z) (occurs x l) (eq x y)

pub occurs_none : (x : Float) → occurs x [] ≡ false
unfolding occurs
occurs_none x = refl

pub occurs_more : (x : Float) (l : List Float) (k : ℕ) (d : Float) → k < length l → occurs x (take (suc k) l) ≡ (occurs x (take k l) || eq x (get_or l k d))
occurs_more x l k d h = ap (occurs x) (take-suc l k d h) ∙ occurs_snoc x (take k l) (get_or l k d)

-- ---- an arrangement

module _ {A : Type 0} where
  -- x stands in the list
  abbrev In : A → List A → Type 0
  In x [] = ⊥
  In x (y ∷ l) = (y ≡ x) ⊎ In x l

  -- what stands before the first x, and behind it
  in_split : (x : A) (l : List A) → In x l → (u : List A) × (v : List A) × (l ≡ u ++ (x ∷ v))
  in_split x [] i = absurd i
  in_split x (y ∷ l) (inl e) = ([], l, ap (λ (t : A). t ∷ l) e)
  in_split x (y ∷ l) (inr i) = let s = in_split x l i in (y ∷ s.0, s.1, ap (λ (t : List A). y ∷ t) s.2)

  -- another one still stands there without x
  in_rest : (x b : A) (u v : List A) → (x ≡ b → ⊥) → In b (u ++ (x ∷ v)) → In b (u ++ v)
  in_rest x b [] v n (inl e) = absurd (n e)
  in_rest x b [] v n (inr i) = i
  in_rest x b (y ∷ u) v n (inl e) = inl e
  in_rest x b (y ∷ u) v n (inr i) = inr (in_rest x b u v n i)

  all_join : (P : A → Type 0) (x : A) (u v : List A) → P x → All P (u ++ v) → All P (u ++ (x ∷ v))
  all_join P x [] v p g = (p, g)
  all_join P x (y ∷ u) v p g = (g.0, all_join P x u v p g.1)

module _ {A : Type 0} {lt : A → A → Bool} {good : A → Type 0} (o : Ordered lt good) where
  -- the first of the sort may stand anywhere
  sort_pull : (a : A) (u v : List A) → good a → All good (u ++ v) → sort lt (u ++ (a ∷ v)) ≡ insert lt a (sort lt (u ++ v))
  unfolding sort
  sort_pull a [] v p g = refl
  sort_pull a (y ∷ u) v p g =
      ap (insert lt y) (sort_pull a u v p g.1) ∙ insert_comm o y a (sort lt (u ++ v)) g.0 p (sort_good o (u ++ v) g.1)

  -- good ones, each with a greater key than the one before
  abbrev Climbing : ℕ → List A → Type 0
  Climbing n [] = Unit {0}
  Climbing n (a ∷ s) = good a × (n < o.key a) × Climbing (o.key a) s

  in_front : (a : A) (s : List A) → good a → Climbing (o.key a) s → insert lt a s ≡ a ∷ s
  unfolding insert
  in_front a [] p c = refl
  in_front a (b ∷ s) p c = let h = c.1 in rw (is_not_below o b a c.0 p (omega arith))

  -- each of them is in w, and is not what stands before
  abbrev AllIn : List A → List A → Type 0
  AllIn w s = All (λ b. In b w) s

  others : (a : A) (u v : List A) (n : ℕ) (s : List A) → o.key a ≤ n → Climbing n s → AllIn (u ++ (a ∷ v)) s → AllIn (u ++ v) s
  others a u v n [] h c i = tt
  others a u v n (b ∷ s) h c i =
      let k = c.1 in
      (in_rest a b u v (λ e. let q = ap o.key e in omega arith) i.0, others a u v (o.key b) s (omega arith) c.2 i.1)

  arranged : (n : ℕ) (s w : List A) → Climbing n s → AllIn w s → length s ≡ length w → All good w × (sort lt w ≡ s)
  unfolding sort
  arranged n [] [] c i h = (tt, refl)
  arranged n [] (x ∷ w) c i h = absurd (omega arith)
  arranged n (a ∷ s) w c i h =
      let t = in_split a w i.0 in
      let u = t.0 in
      let v = t.1 in
      let e = t.2 in
      let m = ap length e ∙ length-append u (a ∷ v) in
      let r = length-append u v in
      let rest =
      arranged (o.key a) s (u ++ v) c.2 (others a u v (o.key a) s (omega arith) c.2 (subst (λ (l : List A). AllIn l s) e i.1)) (omega arith) in (
        subst (All good) (sym e) (all_join good a u v c.0 rest.0),
        ap (sort lt) e ∙ sort_pull a u v c.0 rest.0 ∙ ap (insert lt a) rest.1 ∙ in_front a s c.0 c.2,
      )

-- ---- powers

-- one that is equal to a power above 0 is that power
identical : (x y : Float) → Plain binary32 x → 0 < key binary32 x → Held y → eq x y ≡ true → y ≡ x
identical x y p h g e =
    let n = clear x (is_true (sign_clear x) p.0) in
    let a = equal_abs x y n e in
    let s = plain_equal binary32 (abs x) (abs y) (abs_plain binary32 x n p.1) (abs_plain binary32 y a.0 g) a.1 in
    let k : key binary32 x ≡ key binary32 y = sym (abs_key binary32 x) ∙ ap (key binary32) s ∙ abs_key binary32 y in
    sym (plain_equal binary32 x y p (bare (sign_clear y) refl a.0 k, g) e)
  where
    bare : (t : Bool) → sign_clear y ≡ t → NotNegative y → key binary32 x ≡ key binary32 y → T t
    bare true c m k = tt
    bare false c m k = let z = no_size binary32 y m c in absurd (omega arith)

found : (x : Float) (w : List Float) → Plain binary32 x → 0 < key binary32 x → All Held w → occurs x w ≡ true → In x w
unfolding occurs
found x [] p h g e = subst T (sym e) tt
found x (y ∷ w) p h g e = go (eq x y) refl (found x w p h g.1) e
  where
    go : (t : Bool) → eq x y ≡ t → (occurs x w ≡ true → In x w) → (t || occurs x w) ≡ true → (y ≡ x) ⊎ In x w
    go true f r e = inl (identical x y p h g.0 f)
    go false f r e = inr (r e)

-- they have the order of their keys
abbrev order : Ordered lt (Plain binary32)
order = record { key = key binary32; by_key = λ a b x y. lt_key binary32 a b x y; same_key = λ a b x y. same_key binary32 a b x y }

all_in : (n : ℕ) (s w : List Float) → Climbing order n s → All Held w → ((k : ℕ) → k < length s → occurs (get_or s k zero_f) w ≡ true) → AllIn order w s
all_in n [] w c g f = tt
all_in n (b ∷ s) w c g f =
    let h = c.1 in
    (found b w c.0 (omega arith) g (f 0 (omega arith)), all_in (key binary32 b) s w c.2 g (λ k q. f (suc k) (omega arith)))

climbing : (z : Float) (l : List Float) → NotNegative z → Held z → All Held l → climbs lt z l ≡ true → Climbing order (key binary32 z) l
unfolding climbs
climbing z [] n h g e = tt
climbing z (a ∷ l) n h g e =
    let b = both_true (lt z a) (climbs lt a l) e in
    let s = both_true (sign_clear a) (ltb (key binary32 z) (key binary32 a)) (sym (lt_size binary32 z a n h g.0) ∙ b.0) in
    ((subst T (sym s.0) tt, g.0), ltb-true (key binary32 z) (key binary32 a) s.1, climbing a l (clear a s.0) g.0 g.1 b.1)

pub window_sorted : (w s : List Float) → length s ≡ length w → All Held s → All Held w → climbs lt zero_f s ≡ true
    → ((k : ℕ) → k < length s → occurs (get_or s k zero_f) w ≡ true) → sort lt w ≡ s
window_sorted w s h g v e f =
    let c = climbing zero_f s zero_not_negative zero_held g e in
    (arranged order (key binary32 zero_f) s w c (all_in (key binary32 zero_f) s w c v f) h).1
