-- The law that allows no root to be taken where the power is at most 1. Assumes nothing.
use Rattle.std.specs.Prelude.{◌≡◌, ℕ, zero, suc, ◌*◌, ◌^◌, ◌<◌, ◌≤◌, Bool, true, false, cond, T, refl, Float}
use Rattle.std.proofs.Common.{sym, ap, ◌∙◌, subst, le_trans, le_of_eq, mul-one, one-mul, mul_comm, mul-le-mul_right, le_of_mul-le-mul_right, arith, lit<, le-ltb}
use Rattle.std.specs.Float.{nan, inf, fin, binary64}
use Rattle.std.specs.Float.Ieee.{up, down, mul, div, lt, eq, le, fits, of_bits}
use Rattle.std.specs.Float.Ieee.Fits.{down_pos, add-fits}
use Rattle.ieee.specs.Bound.{Within}
use Rattle.ieee.specs.Root.{rooted}
use Rattle.ieee.proofs.laws.Bounds.{or_le, whole_value}
use Rattle.ieee.proofs.laws.LowerBounds.{fits_value, rooted_bound}
use Rattle.complex.specs.declared.Complex64.{Complex64}
use Rattle.complex.specs.Complex.{Complex, power, norm, scaled}
use Rattle.complex.specs.View.{view64, make64}
use Rattle.rules.specs.Constants.{one}
use Rattle.rules.specs.Dc.{clamps, clamped}
use Rattle.dc.specs.declared.Push.{Push}
use Rattle.dc.specs.Blocker.{push_of}

-- what is within 1 is not above 1
not_above : (x : Float) → Within x 1 1 → lt one x ≡ false
unfolding lt of_bits
not_above nan w = absurd w
not_above (inf s) w = absurd w
not_above (fin true m e) w = refl
not_above (fin false m e) w = le-ltb (1 * down e) (m * up e * 1) w

-- a fraction n / d that is at most 1 is at most c of c-ths
in_units_of : (n d a c : ℕ) → 0 < d → n * c ≡ a * d → n * 1 ≤ 1 * d → a * (1 * 1) ≤ 1 * 1 * c
in_units_of n d a c D e h =
    le_of_mul-le-mul_right
    (le_trans (le_of_eq (ap (λ (k : ℕ). k * d) (mul-one a) ∙ sym e))
    (le_trans (mul-le-mul_right c (le_trans (le_of_eq (sym (mul-one n))) h))
    (le_of_eq (ap (λ (k : ℕ). k * c) (one-mul d) ∙ mul_comm d c ∙ ap (λ (k : ℕ). k * d) (sym (one-mul c))))))
    D

-- a root of what is at most 1 is not above 1
pub root_up_to_one : (p : Float) → T (fits binary64 p) → T (le p one) → lt one (rooted p) ≡ false
unfolding le lt eq rooted of_bits
root_up_to_one nan F h = absurd h
root_up_to_one (inf true) F h = refl
root_up_to_one (inf false) F h = absurd h
root_up_to_one (fin s zero e) F h = not_above (fin s zero e) (omega arith)
root_up_to_one (fin true (suc m) e) F h = refl
root_up_to_one (fin false (suc m) e) F h =
    let p = fin false (suc m) e in
    let v = fits_value binary64 p F tt in
    let a = v.q * 2 ^ v.j in
    let l : suc m * up e * 1 ≤ 1 * down e = or_le (suc m * up e * 1) (1 * down e) true h in
    let under = in_units_of (suc m * up e) (down e) a (2 ^ 1074) (down_pos e) v.is l in
    not_above (rooted p) (rooted_bound p a 1 1 F (refl, v.is) (lit< tt) (whole_value binary64 1 (lit< tt)) under)

power_fits_lem : (y : Complex) → T (fits binary64 (power binary64 y))
unfolding power
power_fits_lem y = add-fits binary64 (mul binary64 y.re y.re) (mul binary64 y.im y.im)

-- a power up to 1: the limit does not act
pub unclamped : (y : Complex) → le (power binary64 y) one ≡ true → clamps y ≡ false
unfolding clamps norm
unclamped y e = root_up_to_one (power binary64 y) (power_fits_lem y) (subst T (sym e) tt)

-- ---- y by whether the limit acts

abbrev clamped_if : Bool → Complex → Float → Complex
clamped_if t y m = cond t (scaled binary64 y (div binary64 one m)) y

pub clamp_none : (y : Complex) → le (power binary64 y) one ≡ true → clamped y ≡ y
unfolding clamped
clamp_none y e = ap (λ (t : Bool). clamped_if t y (norm y)) (unclamped y e)

-- up to 1
pub clamp_plain : (y : Complex64) → le (power binary64 (view64 y)) one ≡ true → ◌≡◌ {A = Push} (record { by = y; clamped = false }) (push_of (view64 y))
clamp_plain y e = λ i. record { by = make64 (sym (clamp_none (view64 y) e) i); clamped = sym (unclamped (view64 y) e) i }

-- else the root decides
pub clamp_by : (y : Complex) (p m : Float) (t : Bool) → p ≡ power binary64 y → m ≡ rooted p → lt one m ≡ t
    → ◌≡◌ {A = Push} (record { by = make64 (clamped_if t y m); clamped = t }) (push_of y)
unfolding clamped clamps norm
clamp_by y p m t e f h =
    let n : m ≡ norm y = f ∙ ap rooted e in
    let acts : t ≡ clamps y = sym h ∙ ap (lt one) n in
    λ i. record { by = make64 (clamped_if (acts i) y (n i)); clamped = acts i }
