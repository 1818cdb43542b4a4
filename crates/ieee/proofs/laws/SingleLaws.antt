-- An f64 whose exponent's field is from 897 to 1149, rounded to f32: of its bits the last 29 are dropped, a tie to even, and nothing else changes. Assumes
-- nothing.
use Rattle.std.specs.Prelude.{◌≡◌, ℕ, ◌+◌, ◌-◌, ◌*◌, ◌/◌, ◌%◌, ◌^◌, ◌<◌, ◌≤◌, min, Bool, true, false, cond, not, T, ◌⊎◌, from_bits, nat_le, nat_lt, refl, Float}
use Rattle.std.proofs.Common.{sym, ap, ◌∙◌, subst, inl, inr, le_of_eq, lt_of_le_of_lt, mul_assoc, mul-le-mul_right, arith, leb→le, ltb→lt, pow-add, pow_pos, le-leb}
use Rattle.std.proofs.Math.Pow.{pow-lt}
use Rattle.std.specs.Float.{nan, inf, fin, binary32, binary64}
use Rattle.std.specs.Float.Ieee.{units, to_bits, fits, is_nan}
use Rattle.std.specs.Float.Ieee.Nearest.{closest}
use Rattle.std.specs.Float.Ieee.Exact.{HasValue, units_val}
use Rattle.std.specs.Float.Ieee.Bits.{of_bits-to_bits, to_bits-lt}
use Rattle.std.specs.Float.Ieee.Fits.{and_l, and_r, fits_widens}
use Rattle.std.proofs.lemmas.Bool.{lt-leb}
use Rattle.ieee.specs.Narrow.{narrowed, normal_in, cut_of}
use Rattle.ieee.specs.Normal.{exponent_in, significand_in}
use Rattle.ieee.proofs.laws.Numbers.{le_or_lt}
use Rattle.ieee.proofs.laws.Fields.{Meaning, meaning}
use Rattle.ieee.proofs.laws.RoundedBits.{closest_up, closest_down, round_units, units_bits, value_bits}
use Rattle.ieee.proofs.laws.NarrowLaws.{narrowed_value, narrowed_fits}
use Rattle.ieee.proofs.laws.RootNearest.{rescale, no_nan_value}

-- ---- `closest` by one sum
closest_cut : (m : ℕ) → closest m (2 ^ 29) ≡ cut_of m
closest_cut m = go (le_or_lt (m % 2 ^ 29 * 2 + m / 2 ^ 29 % 2) (2 ^ 29))
  where
    go : (m % 2 ^ 29 * 2 + m / 2 ^ 29 % 2 ≤ 2 ^ 29) ⊎ (2 ^ 29 < m % 2 ^ 29 * 2 + m / 2 ^ 29 % 2) → closest m (2 ^ 29) ≡ cut_of m
    go (inl h) = closest_down m (2 ^ 29) h ∙ omega arith
    go (inr h) = closest_up m (2 ^ 29) h ∙ omega arith

-- whole pairs of what is dropped stay apart
cut_above : (h m b : ℕ) → b ≡ h * 2 ^ 30 + m → cut_of b ≡ h * 2 + cut_of m
cut_above h m b e =
    let high : b / 2 ^ 29 ≡ h * 2 + m / 2 ^ 29 = omega arith in
    let even : b / 2 ^ 29 % 2 ≡ m / 2 ^ 29 % 2 = omega arith in
    let whole : b + 0x0fff_ffff + b / 2 ^ 29 % 2 ≡ h * 2 * 2 ^ 29 + (m + 0x0fff_ffff + m / 2 ^ 29 % 2) = omega arith in
    apart (h * 2) _ _ whole
  where
    apart : (a c d : ℕ) → d ≡ a * 2 ^ 29 + c → d / 2 ^ 29 ≡ a + c / 2 ^ 29
    apart a c d e = omega arith

cut_le : (m : ℕ) → m < 2 ^ 53 → cut_of m ≤ 2 ^ 24
cut_le m h = omega arith

cut_ge : (m : ℕ) → 2 ^ 52 ≤ m → 2 ^ 23 ≤ cut_of m
cut_ge m h = omega arith

-- ---- what is known of the bits b
record Known (b : ℕ) (s : Bool) (e m : ℕ) : Type 0 where
  low : 897 ≤ e
  high : e < 1150
  full : 2 ^ 52 ≤ m
  room : m < 2 ^ 53
  whole : b ≡ cond s (2 ^ 63) 0 + ((e - 1) * 2 ^ 52 + m)

known : (b : ℕ) → b < 2 ^ 64 → 897 * 2 ^ 52 ≤ b % 2 ^ 63 → b % 2 ^ 63 < 1150 * 2 ^ 52 → Known b (nat_le (2 ^ 63) b) (exponent_in b) (significand_in b)
known b w lo hi = go (le_or_lt (2 ^ 63) b)
  where
    at : (s : Bool) (t : ℕ) → nat_le (2 ^ 63) b ≡ s → cond s (2 ^ 63) 0 ≡ t → b ≡ t + b % 2 ^ 63 → Known b (nat_le (2 ^ 63) b) (exponent_in b) (significand_in b)
    at s t p q h =
        let c : cond (nat_le (2 ^ 63) b) (2 ^ 63) 0 ≡ t = ap (λ (s : Bool). cond s (2 ^ 63) 0) p ∙ q in
        let field : exponent_in b ≡ b % 2 ^ 63 / 2 ^ 52 = omega arith in
        record { low = omega arith; high = omega arith; full = omega arith; room = omega arith; whole = omega arith }

    go : (2 ^ 63 ≤ b) ⊎ (b < 2 ^ 63) → Known b (nat_le (2 ^ 63) b) (exponent_in b) (significand_in b)
    go (inl h) = at true (2 ^ 63) (le-leb _ _ h) refl (omega arith)
    go (inr h) = at false 0 (lt-leb _ _ h) refl (omega arith)

cut_bits : (b e m : ℕ) (s : Bool) → Known b s e m → cut_of b ≡ cond s (2 ^ 34) 0 + ((e - 1) * 2 ^ 23 + cut_of m)
cut_bits b e m true k = cut_above (2 ^ 33 + (e - 1) * 2 ^ 22) m b (omega arith) ∙ omega arith
cut_bits b e m false k = cut_above ((e - 1) * 2 ^ 22) m b (omega arith) ∙ omega arith

-- the bits of the f32, and of its value as an f64
as_word : (c e q : ℕ) (s : Bool) → 897 ≤ e → e < 1150 → 2 ^ 23 ≤ q → q ≤ 2 ^ 24 → c ≡ cond s (2 ^ 34) 0 + ((e - 1) * 2 ^ 23 + q)
    → c % 2 ^ 30 + c / 2 ^ 33 * 2 ^ 30 ≡ cond s (2 ^ 31) 0 + ((e - 897) * 2 ^ 23 + q)
as_word c e q true l h f g w = omega arith
as_word c e q false l h f g w = omega arith

as_wide : (c e q : ℕ) (s : Bool) → c ≡ cond s (2 ^ 34) 0 + ((e - 1) * 2 ^ 23 + q) → c * 2 ^ 29 ≡ cond s (2 ^ 63) 0 + ((e - 1) * 2 ^ 52 + q * 2 ^ 29)
as_wide c e q true w = omega arith
as_wide c e q false w = omega arith

uncapped : (e q : ℕ) → e < 1150 → q ≤ 2 ^ 24 → min ((e - 897) * 2 ^ 23 + q) (255 * 2 ^ 23) ≡ (e - 897) * 2 ^ 23 + q
uncapped e q h g = omega arith

module _ (x : Float) (b : ℕ) (s : Bool) (e m : ℕ) (k : Known b s e m) (v : HasValue x s (m * 2 ^ (e - 1)) (2 ^ 1074)) where
  small : cut_of m ≤ 2 ^ 24
  small = cut_le m k.room

  full : 2 ^ 23 ≤ cut_of m
  full = cut_ge m k.full

  is_units : narrowed x ≡ units binary32 s (cut_of m) (e - 897)
  is_units =
      narrowed_value x s (m * 2 ^ (e - 1)) (2 ^ 1074) (pow_pos 1074) v
      ∙ round_units binary32 m (e - 1) 1074 (e - 897) 29 (omega arith) k.room (λ _. k.full) s
      ∙ ap (λ (q : ℕ). units binary32 s q (e - 897)) (closest_cut m)

  word_bits : cut_of b % 2 ^ 30 + cut_of b / 2 ^ 33 * 2 ^ 30 ≡ to_bits binary32 (narrowed x)
  word_bits =
      as_word (cut_of b) e (cut_of m) s k.low k.high full small (cut_bits b e m s k)
      ∙ sym (ap (to_bits binary32) is_units ∙ units_bits binary32 s (cut_of m) (e - 897) small (λ _. full)
      ∙ ap (λ (n : ℕ). cond s (2 ^ 31) 0 + n) (uncapped e (cut_of m) k.high small))

  under : cut_of m * 2 ^ (e - 897) < 2 ^ 277
  under = lt_of_le_of_lt (mul-le-mul_right (2 ^ (e - 897)) small)
      (lt_of_le_of_lt (le_of_eq (sym (pow-add 2 24 (e - 897)))) (pow-lt {i = 24 + (e - 897)} {j = 277} (omega arith)))

  same : cut_of m * 2 ^ (e - 897) * 2 ^ 1074 ≡ cut_of m * 2 ^ 29 * 2 ^ (e - 1) * 2 ^ 149
  same =
      mul_assoc (cut_of m) (2 ^ (e - 897)) (2 ^ 1074)
      ∙ ap (λ (n : ℕ). cut_of m * n)
      (sym (pow-add 2 (e - 897) 1074) ∙ ap (λ (n : ℕ). 2 ^ n) (omega arith) ∙ pow-add 2 (29 + (e - 1)) 149
      ∙ ap (λ (n : ℕ). n * 2 ^ 149) (pow-add 2 29 (e - 1)))
      ∙ sym (mul_assoc (cut_of m) (2 ^ 29 * 2 ^ (e - 1)) (2 ^ 149))
      ∙ ap (λ (n : ℕ). n * 2 ^ 149) (sym (mul_assoc (cut_of m) (2 ^ 29) (2 ^ (e - 1))))

  valued : HasValue (narrowed x) s (cut_of m * 2 ^ 29 * 2 ^ (e - 1)) (2 ^ 1074)
  valued =
      subst (λ (y : Float). HasValue y s (cut_of m * 2 ^ 29 * 2 ^ (e - 1)) (2 ^ 1074)) (sym is_units)
      (rescale (units binary32 s (cut_of m) (e - 897)) s (cut_of m * 2 ^ (e - 897)) (2 ^ 149) (cut_of m * 2 ^ 29 * 2 ^ (e - 1)) (2 ^ 1074) (pow_pos 149) same
      (units_val binary32 s (cut_of m) (e - 897) under))

  is_value : from_bits binary64 (cut_of b * 2 ^ 29) ≡ narrowed x
  is_value =
      ap (from_bits binary64)
      (as_wide (cut_of b) e (cut_of m) s (cut_bits b e m s k)
      ∙ sym (value_bits binary64 s (narrowed x) (cut_of m * 2 ^ 29) (e - 1) (omega arith) (λ _. omega arith) valued))
      ∙ of_bits-to_bits binary64 (narrowed x) (fits_widens (narrowed x) (narrowed_fits x))

  is_number : T (not (is_nan (narrowed x)))
  is_number = no_nan_value (narrowed x) s _ _ valued

-- ---- what rounding makes of such an x
pub not_nan : (x : Float) → T (normal_in (to_bits binary64 x)) → T (not (is_nan x))
unfolding to_bits is_nan
not_nan nan h = h
not_nan (inf s) h = tt
not_nan (fin s m e) h = tt

pub record Cut (x : Float) : Type 0 where
  pub room : to_bits binary64 x + 2 ^ 28 < 2 ^ 64
  pub fit : cut_of (to_bits binary64 x) * 2 ^ 29 < 2 ^ 64
  pub word : cut_of (to_bits binary64 x) % 2 ^ 30 + cut_of (to_bits binary64 x) / 2 ^ 33 * 2 ^ 30 ≡ to_bits binary32 (narrowed x)
  pub value : from_bits binary64 (cut_of (to_bits binary64 x) * 2 ^ 29) ≡ narrowed x
  pub number : T (not (is_nan (narrowed x)))

pub cut : (x : Float) → T (fits binary64 x) → T (normal_in (to_bits binary64 x)) → Cut x
cut x F h = go (meaning x F (not_nan x h))
  where
    b : ℕ
    b = to_bits binary64 x

    lo : 897 * 2 ^ 52 ≤ b % 2 ^ 63
    lo = leb→le _ _ (and_l (nat_le (897 * 2 ^ 52) (b % 2 ^ 63)) (nat_lt (b % 2 ^ 63) (1150 * 2 ^ 52)) h)

    hi : b % 2 ^ 63 < 1150 * 2 ^ 52
    hi = ltb→lt _ _ (and_r (nat_le (897 * 2 ^ 52) (b % 2 ^ 63)) (nat_lt (b % 2 ^ 63) (1150 * 2 ^ 52)) h)

    w : b < 2 ^ 64
    w = to_bits-lt binary64 x F

    k : Known b (nat_le (2 ^ 63) b) (exponent_in b) (significand_in b)
    k = known b w lo hi

    room : (b : ℕ) → b < 2 ^ 64 → b % 2 ^ 63 < 1150 * 2 ^ 52 → b + 2 ^ 28 < 2 ^ 64
    room b w h = omega arith

    fit : (b : ℕ) → b < 2 ^ 64 → b % 2 ^ 63 < 1150 * 2 ^ 52 → cut_of b * 2 ^ 29 < 2 ^ 64
    fit b w h = omega arith

    no : (e : ℕ) → e < 1150 → 2047 ≤ e → ⊥
    no e h l = omega arith

    go : Meaning x (nat_le (2 ^ 63) b) (exponent_in b) (b % 2 ^ 52) → Cut x
    go (inl v) =
        record {
          room = room b w hi;
          fit = fit b w hi;
          word = word_bits x b _ _ _ k v.1;
          value = is_value x b _ _ _ k v.1;
          number = is_number x b _ _ _ k v.1;
        }
    go (inr v) = absurd (no (exponent_in b) k.high v.0)
