-- A float's sign bit: what its bits say of a power that is limited in size. Assumes nothing.
use mathlib.Core.Path.{◌≡◌, refl}
use mathlib.Core.Bool.{false, true, not, ◌&&◌}
use Prim.Native.Nat.{ℕ, ◌+◌, ◌*◌, ◌≤◌, ◌<◌}
use native.Mathlib.Omega.{arith}
use lib.Dec.{T, ltb}
use borrow.Author.Tests.{lt-ltb, le-ltb}
use lib.Ieee.{Float, nan, inf, fin, Format, top, le, neg, to_bits, fits, is_nan}
use lib.Ieee.Fits.{neg-fits}
use lib.Ieee.Bits.{to_bits-lt}
use Rattle.ieee.specs.Plain.{sign_clear}
use Rattle.rules.specs.Guard.{magnitude}

upper_half : (t a b : ℕ) → t + a + b < 2 * t → 0 + a + b < t
upper_half t a b h = omega arith

upper_infinity : (t a : ℕ) → t + a < 2 * t → 0 + a < t
upper_infinity t a h = omega arith

low_half : (t a b : ℕ) → t + a + b < 2 * t → t ≤ 0 + a + b → ⊥
low_half t a b h k = omega arith

low_infinity : (t a : ℕ) → t + a < 2 * t → t ≤ 0 + a → ⊥
low_infinity t a h k = omega arith

high_half : (t a b : ℕ) → t + a + b < t → ⊥
high_half t a b h = omega arith

high_infinity : (t a : ℕ) → t + a < t → ⊥
high_infinity t a h = omega arith

module _ (f : Format) (limit : Float) where
  pub bit_set : (x : Float) → T (fits f x) → top f ≤ to_bits f x → false ≡ (sign_clear x && le (magnitude x) limit)
  unfolding to_bits neg
  bit_set nan F h = refl
  bit_set (inf true) F h = refl
  bit_set (inf false) F h = absurd (low_infinity (top f) _ (to_bits-lt f (inf true) (neg-fits f (inf false) F)) h)
  bit_set (fin true m e) F h = refl
  bit_set (fin false m e) F h = absurd (low_half (top f) _ _ (to_bits-lt f (fin true m e) (neg-fits f (fin false m e) F)) h)

  pub bit_clear : (x : Float) → to_bits f x < top f → le x limit ≡ (sign_clear x && le (magnitude x) limit)
  unfolding to_bits le magnitude
  bit_clear nan h = refl
  bit_clear (inf true) h = absurd (high_infinity (top f) _ h)
  bit_clear (inf false) h = refl
  bit_clear (fin true m e) h = absurd (high_half (top f) _ _ h)
  bit_clear (fin false m e) h = refl

-- of what is no NaN the bit alone tells
pub bit_tells : (f : Format) (x : Float) → T (fits f x) → T (not (is_nan x)) → ltb (to_bits f x) (top f) ≡ sign_clear x
unfolding to_bits is_nan neg
bit_tells f nan F N = absurd N
bit_tells f (inf true) F N = le-ltb _ (top f) (omega arith)
bit_tells f (inf false) F N = lt-ltb _ (top f) (upper_infinity (top f) _ (to_bits-lt f (inf true) (neg-fits f (inf false) F)))
bit_tells f (fin true m e) F N = le-ltb _ (top f) (omega arith)
bit_tells f (fin false m e) F N = lt-ltb _ (top f) (upper_half (top f) _ _ (to_bits-lt f (fin true m e) (neg-fits f (fin false m e) F)))
