-- A NaN is what differs from itself. Assumes nothing.
use Rattle.std.specs.Prelude.{◌≡◌, ℕ, ◌+◌, ◌*◌, ◌/◌, ◌%◌, ◌≤◌, Bool, true, false, not, ◌&&◌, T, nat_lt, refl, Float}
use Rattle.std.proofs.Common.{sym, ap, ◌∙◌, subst, ltb-false}
use Rattle.std.specs.Float.{nan, inf, fin, Format, binary32, binary64}
use Rattle.std.specs.Float.Ieee.{ones, hid, top, ne, is_nan, nan_bits, to_bits, of_bits, div, fits}
use Rattle.std.specs.Float.Ieee.Bits.{is_false, nan_bits_is, nan_bits_above, of_bits-to_bits}
use Rattle.std.specs.Float.Ieee.Fits.{and_i}
use Rattle.std.specs.Float.Ieee.Compare.{differs_from_itself}

pub is_nan_lem : (x : Float) → ne x x ≡ true → x ≡ nan
is_nan_lem x e = differs_from_itself x (subst T (sym e) tt)

pub no_nan : (x : Float) → ne x x ≡ false → T (not (is_nan x))
unfolding is_nan ne
no_nan nan e = subst T e tt
no_nan (inf s) e = tt
no_nan (fin s m e) d = tt

-- `0.0 / 0.0`
pub zero_by_zero : (f : Format) → div f (of_bits f 0) (of_bits f 0) ≡ nan
unfolding div of_bits
zero_by_zero binary32 = refl
zero_by_zero binary64 = refl

-- ---- bit patterns
-- the pattern that the logic writes for a NaN
pub bits_of_nan : (f : Format) (x : Float) → ne x x ≡ true → ones f * hid f + hid f / 2 ≡ to_bits f x
unfolding to_bits
bits_of_nan f x e = ap (to_bits f) (sym (is_nan_lem x e))

nan_of : (x : Float) → is_nan x ≡ true → nan ≡ x
unfolding is_nan
nan_of nan e = refl
nan_of (inf s) e = absurd (subst T (sym e) tt)
nan_of (fin s m d) e = absurd (subst T (sym e) tt)

-- a pattern above the infinity's, its sign aside
pub nan_of_bits : (f : Format) (n : ℕ) → nat_lt (ones f * hid f) (n % top f) ≡ true → nan ≡ of_bits f n
nan_of_bits f n e = nan_of (of_bits f n) (sym (nan_bits_is f n) ∙ nan_bits_above f n ∙ e)

pub no_nan_bits : (f : Format) (n : ℕ) → nat_lt (ones f * hid f) (n % top f) ≡ false → T (not (nan_bits f n))
no_nan_bits f n e = subst (λ (b : Bool). T (not b)) (sym (nan_bits_above f n ∙ e)) tt

-- and what is no NaN has a pattern up to the infinity's
pub number_below : (f : Format) (x : Float) → T (fits f x) → T (not (is_nan x)) → to_bits f x % top f ≤ ones f * hid f
number_below f x F N =
    ltb-false (ones f * hid f) (to_bits f x % top f)
    (sym (nan_bits_above f (to_bits f x)) ∙ nan_bits_is f (to_bits f x) ∙ ap is_nan (of_bits-to_bits f x F) ∙ is_false (is_nan x) N)

-- what a cast between the formats asks
pub castable : (f : Format) (x : Float) → T (fits f x) → T (not (is_nan x)) → T (fits f x && not (is_nan x))
castable f x = and_i (fits f x) (not (is_nan x))
