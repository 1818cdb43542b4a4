-- Floats with no sign bit have the order of their bit patterns; a size is at most a limit exactly if its pattern is. Assumes nothing.
use Rattle.std.specs.Prelude.{◌≡◌, ◌⊎◌, Bool, true, not, cond, ◌||◌, T, leb, ℤ, Float}
use Rattle.std.proofs.Math.Path.{refl}
use Rattle.std.proofs.Common.{ap, sym, ◌∙◌, subst, inl, inr, le-div_iff_mul-le, div-add-mod', mul-le-mul_right, suc-mul, le_of_lt, arith, ltb-true, lt-ltb, le-leb, eq-eqb, pow-add, pow_pos}
use Rattle.std.proofs.Math.Bool.{false}
use Prim.Native.Nat.{ℕ, zero, suc, ◌+◌, ◌-◌, ◌*◌, ◌/◌, ◌%◌, ◌^◌, ◌≤◌, ◌<◌}
use Rattle.std.proofs.lemmas.Bool.{lt-leb}
use Rattle.std.specs.Float.{nan, inf, fin, Format}
use Rattle.std.specs.Float.Ieee.{binary32, prec, low, up, down, size, hid, lt, eq, le, fits, to_bits, of_bits, is_nan}
use Rattle.std.specs.Float.Ieee.Bits.{of_bits-to_bits, to_bits-of_bits, of_bits-fits, nan_bits_is, nan_bits_above}
use Rattle.std.specs.Float.Ieee.Digits.{size-lt, size-le, size_reaches}
use Rattle.std.specs.Float.Ieee.Fits.{two, kept-lt, inf-fits}
use Rattle.ieee.proofs.laws.Numbers.{le_or_lt, pow_twice}
use Rattle.ieee.specs.Plain.{sign_clear, Plain, key}
use Rattle.ieee.proofs.laws.Order.{lt_key, plain_asym, plain_equal}
use Rattle.rules.specs.Guard.{magnitude}

-- ---- the pattern of n units

abbrev pub word : Format → ℕ → ℕ
word f n = (size n - prec f) * hid f + n / 2 ^ (size n - prec f)

quotient_mono : (a b k : ℕ) → 0 < k → a ≤ b → a / k ≤ b / k
quotient_mono a b k pos h = (le-div_iff_mul-le pos).1 (omega (arith, div-add-mod' a k))

-- more units have no lesser pattern
pub word_mono : (f : Format) (a b : ℕ) → a ≤ b → word f a ≤ word f b
word_mono f a b h = go (le_or_lt (size b - p) (size a - p))
  where
    p : ℕ
    p = prec f

    sizes : size a ≤ size b
    sizes = size-le a (size b) (omega (arith, size-lt b))

    go : (size b - p ≤ size a - p) ⊎ (size a - p < size b - p) → word f a ≤ word f b
    go (inl k) =
        let e : size a - p ≡ size b - p = omega (arith, sizes) in
        rw e (let q = quotient_mono a b (2 ^ (size b - p)) (pow_pos (size b - p)) h in omega arith)
    go (inr k) =
        let j = size b - p in
        let P = two f in
        let full : 2 ^ (p - 1) * 2 ^ j ≤ b = subst (λ (n : ℕ). n ≤ b) (pow-add 2 (p - 1) j) (size_reaches b (p - 1 + j) (omega (arith, k, P))) in
        let lead : hid f ≤ b / 2 ^ j = (le-div_iff_mul-le (pow_pos j)).1 full in
        let few = kept-lt p a in
        let twice = pow_twice p (omega arith) in
        omega (arith, mul-le-mul_right (hid f) k, suc-mul (size a - p) (hid f))

-- ---- a number's pattern, the sign left out

-- no NaN, no infinity and no sign bit, and a value of the format
pub record Number (f : Format) (x : Float) : Type 0 where
  pub plain : Plain f x
  pub pattern : to_bits f x ≡ word f (key f x)

pub number : (f : Format) (m : ℕ) (e : ℤ) → T (fits f (fin false m e)) → Number f (fin false m e)
unfolding to_bits
number f m e t = record { plain = (tt, t); pattern = let n = m * up e * 2 ^ low f / down e in omega arith }

module _ (f : Format) (x y : Float) (a : Number f x) (b : Number f y) where
  -- a lesser pattern is a lesser number
  under : to_bits f x < to_bits f y → lt x y ≡ true
  under h =
      lt_key f x y a.plain b.plain
      ∙ lt-ltb (key f x) (key f y) (go (le_or_lt (key f y) (key f x)))
    where
      go : (key f y ≤ key f x) ⊎ (key f x < key f y) → key f x < key f y
      go (inl k) = absurd (let m = word_mono f (key f y) (key f x) k in omega (arith, a.pattern, b.pattern))
      go (inr k) = k

  same : to_bits f x ≡ to_bits f y → x ≡ y
  same e = sym (of_bits-to_bits f x a.plain.1) ∙ ap (of_bits f) e ∙ of_bits-to_bits f y b.plain.1

eq_self : (x : Float) → T (sign_clear x) → eq x x ≡ true
unfolding eq
eq_self nan c = absurd c
eq_self (inf false) c = refl
eq_self (inf true) c = absurd c
eq_self (fin false m e) c = let q = eq-eqb (m * up e * down e) (m * up e * down e) refl in rw q
eq_self (fin true m e) c = absurd c

or_true : (b : Bool) → (b || true) ≡ true
or_true true = refl
or_true false = refl

-- Numbers with no sign bit have the order of their patterns.
pub le_patterns : (f : Format) (x y : Float) → Number f x → Number f y → le x y ≡ leb (to_bits f x) (to_bits f y)
unfolding le
le_patterns f x y a b = go (le_or_lt (to_bits f x) (to_bits f y)) (le_or_lt (to_bits f y) (to_bits f x)) (eq x y) refl
  where
    go : (to_bits f x ≤ to_bits f y) ⊎ (to_bits f y < to_bits f x) → (to_bits f y ≤ to_bits f x) ⊎ (to_bits f x < to_bits f y) → (t : Bool) → eq x y ≡ t
        → (lt x y || eq x y) ≡ leb (to_bits f x) (to_bits f y)
    go (inr g) h true e = absurd (let q = ap (to_bits f) (plain_equal f x y a.plain b.plain e) in omega arith)
    go (inr g) h false e =
        let u = plain_asym f y x b.plain a.plain (under f y x b a g) in
        rw (u, e) (sym (lt-leb (to_bits f x) (to_bits f y) g))
    go (inl g) (inr h) t e = rw (under f x y a b h) (sym (le-leb (to_bits f x) (to_bits f y) g))
    go (inl g) (inl h) t e =
        let s = same f x y a b (omega arith) in
        let q : eq x y ≡ true = subst (λ (z : Float). eq x z ≡ true) s (eq_self x a.plain.0) in
        rw q (or_true (lt x y) ∙ sym (le-leb (to_bits f x) (to_bits f y) g))

-- ---- a size and a limit

fits_size : (f : Format) (s : Bool) (m : ℕ) (e : ℤ) → T (fits f (fin s m e)) → T (fits f (fin false m e))
unfolding fits
fits_size f s zero e t = t
fits_size f s (suc m) e t = t

-- below the infinity's
finite_pattern : (m : ℕ) (e : ℤ) → T (fits binary32 (fin false m e)) → to_bits binary32 (fin false m e) ≤ 255 * 2 ^ 23
unfolding lt size
finite_pattern m e t =
    let x = fin false m e in
    let h = ltb-true (key binary32 x) (key binary32 (inf false)) (sym (lt_key binary32 x (inf false) (tt, t) (tt, inf-fits binary32 false))) in
    rw (number binary32 m e t).pattern (word_mono binary32 (key binary32 x) (key binary32 (inf false)) (le_of_lt h))

infinite : (s : Bool) → to_bits binary32 (inf s) ≡ cond s (2 ^ 31) 0 + 255 * 2 ^ 23
unfolding to_bits
infinite s = refl

signed : (s : Bool) (m : ℕ) (e : ℤ) → to_bits binary32 (fin s m e) ≡ cond s (2 ^ 31) 0 + to_bits binary32 (fin false m e)
unfolding to_bits
signed s m e = go s
  where
    n : ℕ
    n = m * up e * 2 ^ 149 / down e

    go : (s : Bool)
        → cond s (2 ^ 31) 0 + (size n - 24) * 2 ^ 23 + n / 2 ^ (size n - 24) ≡ cond s (2 ^ 31) 0 + (0 + (size n - 24) * 2 ^ 23 + n / 2 ^ (size n - 24))
    go true = omega arith
    go false = omega arith

without_sign : (s : Bool) (b w : ℕ) → b ≡ cond s (2 ^ 31) 0 + w → w < 2 ^ 31 → b % 2 ^ 31 ≡ w
without_sign true b w e h = omega arith
without_sign false b w e h = omega arith

module _ (m : ℕ) (d : ℤ) (t : T (fits binary32 (fin false m d))) (finite : to_bits binary32 (fin false m d) < 255 * 2 ^ 23) where
  -- Of the value of pattern b the size is at most the limit exactly if the pattern without its sign is.
  pub size_pattern : (b : ℕ) → b < 2 ^ 32 → le (magnitude (of_bits binary32 b)) (fin false m d) ≡ leb (b % 2 ^ 31) (to_bits binary32 (fin false m d))
  unfolding magnitude le lt eq is_nan
  size_pattern b h = go (of_bits binary32 b) refl
    where
      L : ℕ
      L = to_bits binary32 (fin false m d)

      is : (y : Float) → of_bits binary32 b ≡ y → T (not (is_nan y)) → b ≡ to_bits binary32 y
      is y e n = sym (to_bits-of_bits binary32 b h (subst (λ (z : Float). T (not (is_nan z))) (sym e) n)) ∙ ap (to_bits binary32) e

      go : (y : Float) → of_bits binary32 b ≡ y → le (magnitude y) (fin false m d) ≡ leb (b % 2 ^ 31) L
      go nan e =
          let above = ltb-true (255 * 2 ^ 23) (b % 2 ^ 31) (sym (nan_bits_above binary32 b) ∙ nan_bits_is binary32 b ∙ ap is_nan e) in
          sym (lt-leb (b % 2 ^ 31) L (omega arith))
      go (inf s) e =
          let r = without_sign s b (255 * 2 ^ 23) (is (inf s) e tt ∙ infinite s) (omega arith) in
          sym (lt-leb (b % 2 ^ 31) L (omega arith))
      go (fin s n g) e =
          let f = fits_size binary32 s n g (subst (λ (z : Float). T (fits binary32 z)) e (of_bits-fits binary32 b)) in
          let small = finite_pattern n g f in
          let r = without_sign s b (to_bits binary32 (fin false n g)) (is (fin s n g) e tt ∙ signed s n g) (omega arith) in
          le_patterns binary32 (fin false n g) (fin false m d) (number binary32 n g f) (number binary32 m d t) ∙ ap (λ (k : ℕ). leb k L) (sym r)
