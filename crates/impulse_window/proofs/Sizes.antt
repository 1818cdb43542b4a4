-- Laws of floats that are not below 0: they have the order of their sizes, whatever sign a zero has. Assumes nothing.
use mathlib.Core.Path.{◌≡◌, refl, sym, ap, ◌∙◌, subst}
use mathlib.Core.Bool.{Bool, true, false, ◌&&◌, ◌||◌, beq}
use Prim.Native.Nat.{ℕ, zero, suc, ◌+◌, ◌*◌, ◌/◌, ◌^◌, ◌≤◌, ◌<◌}
use native.Mathlib.Nat.{zero-mul, mul-pos, zero-div}
use native.Mathlib.Omega.{arith}
use lib.Dec.{T, ltb, eqb, eqb→eq}
use lib.Ieee.{Float, nan, inf, fin, Format, low, up, down, fits, lt, eq, le}
use lib.Ieee.Fits.{and_l, and_r, up_pos, down_pos}
use borrow.Author.Tests.{ltb-true, ltb-false, lt-ltb, le-ltb}
use Rattle.ieee.specs.Plain.{sign_clear, Plain, key}
use Rattle.ieee.proofs.laws.Order.{lt_key, plain_equal}
use Rattle.impulse_window.specs.Rising.{NotNegative}

-- the size alone
abbrev pub abs : Float → Float
abs nan = nan
abs (inf s) = inf false
abs (fin s m e) = fin false m e

pub abs_plain : (f : Format) (a : Float) → NotNegative a → T (fits f a) → Plain f (abs a)
unfolding fits
abs_plain f nan n h = absurd n
abs_plain f (inf s) n h = (tt, tt)
abs_plain f (fin s zero e) n h = (tt, h)
abs_plain f (fin s (suc m) e) n h = (tt, h)

pub abs_key : (f : Format) (a : Float) → key f (abs a) ≡ key f a
abs_key f nan = refl
abs_key f (inf s) = refl
abs_key f (fin s m e) = refl

pub clear : (b : Float) → sign_clear b ≡ true → NotNegative b
clear nan h = subst T (sym h) tt
clear (inf s) h = subst T (sym h) tt
clear (fin true m e) h = absurd (subst T (sym h) tt)
clear (fin false m e) h = tt

-- ---- the order

pub none : (m u v : ℕ) → m ≡ 0 → m * u * v ≡ 0
none m u v h = ap (λ (n : ℕ). n * u * v) h ∙ ap (λ (n : ℕ). n * v) (zero-mul u) ∙ zero-mul v

no_factor : (m u v : ℕ) → 0 < u → 0 < v → m * u * v ≡ 0 → m ≡ 0
no_factor zero u v p q h = refl
no_factor (suc m) u v p q h = let z : 0 < suc m = omega arith in let g = mul-pos (mul-pos z p) q in absurd (omega arith)

drop_sign : (a x : Float) → NotNegative a → T (sign_clear x) → lt a x ≡ lt (abs a) x
unfolding lt
drop_sign nan x n c = absurd n
drop_sign (inf true) x n c = absurd n
drop_sign (inf false) x n c = refl
drop_sign (fin false m e) x n c = refl
drop_sign (fin true m e) nan n c = refl
drop_sign (fin true m e) (inf t) n c = refl
drop_sign (fin true m e) (fin true k d) n c = absurd c
drop_sign (fin true m e) (fin false k d) n c =
    let z = none m (up e) (down d) n in
    let s : m * up e * down d + k * up d * down e ≡ k * up d * down e = omega arith in
    ap (ltb 0) s ∙ ap (λ (w : ℕ). ltb w (k * up d * down e)) (sym z)

pub no_clear : (a x : Float) → NotNegative a → sign_clear x ≡ false → lt a x ≡ false
unfolding lt
no_clear nan x n c = absurd n
no_clear (inf true) x n c = absurd n
no_clear (inf false) nan n c = refl
no_clear (inf false) (inf t) n c = refl
no_clear (inf false) (fin t k d) n c = refl
no_clear (fin s m e) nan n c = refl
no_clear (fin s m e) (inf t) n c = c
no_clear (fin false m e) (fin true k d) n c = refl
no_clear (fin s m e) (fin false k d) n c = absurd (subst T c tt)
no_clear (fin true m e) (fin true k d) n c =
    let z = none m (up e) (down d) n in le-ltb (k * up d * down e) (m * up e * down d) (omega arith)

-- what stands below a float is smaller, and that has no sign bit
pub lt_size : (f : Format) (a x : Float) → NotNegative a → T (fits f a) → T (fits f x) → lt a x ≡ (sign_clear x && ltb (key f a) (key f x))
lt_size f a x n h g = go (sign_clear x) refl
  where
    go : (t : Bool) → sign_clear x ≡ t → lt a x ≡ (t && ltb (key f a) (key f x))
    go true e =
        let c : T (sign_clear x) = subst T (sym e) tt in
        drop_sign a x n c ∙ lt_key f (abs a) x (abs_plain f a n h) (c, g) ∙ ap (λ (k : ℕ). ltb k (key f x)) (abs_key f a)
    go false e = no_clear a x n e

-- ---- what follows from it

pub both_true : (a b : Bool) → (a && b) ≡ true → (a ≡ true) × (b ≡ true)
both_true true b h = (refl, h)
both_true false b h = absurd (subst T (sym h) tt)

pub no_size : (f : Format) (b : Float) → NotNegative b → sign_clear b ≡ false → key f b ≡ 0
no_size f nan n c = absurd n
no_size f (inf true) n c = absurd n
no_size f (inf false) n c = absurd (subst T c tt)
no_size f (fin false m e) n c = absurd (subst T c tt)
no_size f (fin true m e) n c = ap (λ (w : ℕ). w / down e) (none m (up e) (2 ^ low f) n) ∙ zero-div (down e)

module _ (f : Format) (a : Float) (n : NotNegative a) (h : T (fits f a)) where
  pub below : (x : Float) → T (fits f x) → lt a x ≡ true → NotNegative x × (key f a < key f x)
  below x g e =
      let b = both_true (sign_clear x) (ltb (key f a) (key f x)) (sym (lt_size f a x n h g) ∙ e) in
      (clear x b.0, ltb-true (key f a) (key f x) b.1)

  pub not_below : (x : Float) → NotNegative x → T (fits f x) → lt a x ≡ false → key f x ≤ key f a
  not_below x m g e = go (sign_clear x) refl (sym (lt_size f a x n h g) ∙ e)
    where
      go : (t : Bool) → sign_clear x ≡ t → (sign_clear x && ltb (key f a) (key f x)) ≡ false → key f x ≤ key f a
      go true c k = ltb-false (key f a) (key f x) (sym (ap (λ (t : Bool). t && ltb (key f a) (key f x)) c) ∙ k)
      go false c k = let z = no_size f x m c in omega arith

  -- what is no smaller is not below
  pub stays : (x : Float) → T (fits f x) → key f x ≤ key f a → lt a x ≡ false
  stays x g k = lt_size f a x n h g ∙ ap (λ (t : Bool). sign_clear x && t) (le-ltb (key f a) (key f x) k) ∙ no (sign_clear x)
    where
      no : (t : Bool) → (t && false) ≡ false
      no true = refl
      no false = refl

  -- where a greater one is below x, so is a
  pub lower : (b x : Float) → NotNegative b → T (fits f b) → T (fits f x) → key f a ≤ key f b → lt b x ≡ true → lt a x ≡ true
  lower b x m g w k e =
      let s = both_true (sign_clear x) (ltb (key f b) (key f x)) (sym (lt_size f b x m g w) ∙ e) in
      let u = ltb-true (key f b) (key f x) s.1 in
      lt_size f a x n h w ∙ ap (λ (t : Bool). t && ltb (key f a) (key f x)) s.0 ∙ lt-ltb (key f a) (key f x) (omega arith)

  -- and so where a is not below x, a greater one is not
  pub higher : (b x : Float) → NotNegative b → T (fits f b) → T (fits f x) → key f a ≤ key f b → lt a x ≡ false → lt b x ≡ false
  higher b x m g w k e = go (lt b x) refl
    where
      go : (t : Bool) → lt b x ≡ t → t ≡ false
      go true y = sym (lower b x m g w k y) ∙ e
      go false y = refl

-- ---- a test

pub equal_abs : (a b : Float) → NotNegative a → eq a b ≡ true → NotNegative b × (eq (abs a) (abs b) ≡ true)
unfolding eq
equal_abs nan b n h = absurd n
equal_abs (inf true) b n h = absurd n
equal_abs (inf false) nan n h = absurd (subst T (sym h) tt)
equal_abs (inf false) (inf true) n h = absurd (subst T (sym h) tt)
equal_abs (inf false) (inf false) n h = (tt, refl)
equal_abs (inf false) (fin t k d) n h = absurd (subst T (sym h) tt)
equal_abs (fin s m e) nan n h = absurd (subst T (sym h) tt)
equal_abs (fin s m e) (inf t) n h = absurd (subst T (sym h) tt)
equal_abs (fin s m e) (fin t k d) n h = (sign s t n h, ap (λ (w : Bool). w && true) (both_true (eqb A B) (beq s t || eqb A 0) h).0)
  where
    A : ℕ
    A = m * up e * down d

    B : ℕ
    B = k * up d * down e

    gone : A ≡ 0 → (eqb A B && true) ≡ true → k ≡ 0
    gone z w = no_factor k (up d) (down e) (up_pos d) (down_pos e) (sym (eqb→eq A B (and_l (eqb A B) true (subst T (sym w) tt))) ∙ z)

    first : (w : Bool) → (eqb A B && w) ≡ true → (eqb A B && true) ≡ true
    first w g = ap (λ (w : Bool). w && true) (both_true (eqb A B) w g).0

    sign : (s t : Bool) → NotNegative (fin s m e) → (eqb A B && (beq s t || eqb A 0)) ≡ true → NotNegative (fin t k d)
    sign s false n g = tt
    sign false true n g = gone (eqb→eq A 0 (and_r (eqb A B) (eqb A 0) (subst T (sym g) tt))) (first (eqb A 0) g)
    sign true true n g = gone (none m (up e) (down d) n) (first true g)

pub at_most : (f : Format) (a b : Float) → NotNegative a → T (fits f a) → T (fits f b) → le a b ≡ true → NotNegative b × (key f a ≤ key f b)
unfolding le
at_most f a b n h g e = go (lt a b) refl e
  where
    go : (t : Bool) → lt a b ≡ t → (t || eq a b) ≡ true → NotNegative b × (key f a ≤ key f b)
    go true l e = let r = below f a n h b g l in (r.0, let k = r.1 in omega arith)
    go false l e =
        let r = equal_abs a b n e in
        let s = plain_equal f (abs a) (abs b) (abs_plain f a n h) (abs_plain f b r.0 g) r.1 in
        let k : key f a ≡ key f b = sym (abs_key f a) ∙ ap (key f) s ∙ abs_key f b in
        (r.0, omega arith)
