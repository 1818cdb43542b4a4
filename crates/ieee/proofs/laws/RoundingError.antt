-- How far rounding moves a fraction. In units of the format's smallest value `grid f a c` is a / c rounded. Up to 2 ^ (prec + j) of those units the two differ
-- by half of 2 ^ j units at most. And a value of the format that the fraction reaches is reached by the result too. Assumes nothing.
use Rattle.std.specs.Prelude.{◌≡◌, ℕ, suc, ◌+◌, ◌-◌, ◌*◌, ◌/◌, ◌%◌, ◌^◌, ◌<◌, ◌≤◌, Bool, ◌⊎◌, Float}
use Rattle.std.proofs.Common.{sym, ap, ◌∙◌, subst, inl, inr, le_trans, le_of_eq, le_of_lt, lt_of_le_of_lt, le_antisymm, eq-or-lt_of_le, mod-lt, div-add-mod', mul_assoc, mul_comm, add-mul, one-mul, mul-pos, mul-le-mul_left, mul-le-mul_right, le-div_iff_mul-le, div-lt_iff_lt-mul, arith, pow-add, pow_pos, pow_mono, shl_lt}
use Prim.Native.Nat.{compare}
use Rattle.std.proofs.Math.Nat.{div-div-eq-div-mul}
use Rattle.std.proofs.Math.Pow.{pow-lt}
use Rattle.std.specs.Float.{Format}
use Rattle.std.specs.Float.Ieee.{prec, emax, low, size, round}
use Rattle.std.specs.Float.Ieee.Digits.{size-le, size_reaches}
use Rattle.std.specs.Float.Ieee.Fits.{round_is, two, two-le_pos}
use Rattle.std.specs.Float.Ieee.Exact.{HasValue, units_val}
use Rattle.std.specs.Float.Ieee.Nearest.{closest, closest_mono, nearest-ge}
use Rattle.std.specs.Float.Ieee.Order.{drop, kept}
use Rattle.std.specs.Float.Ieee.Scale.{grid, overflow}
use Rattle.ieee.proofs.laws.Numbers.{le_or_lt, pow_split}
use Rattle.ieee.proofs.laws.RoundedBits.{closest_up, closest_down}
use Rattle.ieee.proofs.laws.Bounds.{closest_whole, spare, grid_le}

-- a and b differ by half of d at most
pub record Half (a b d : ℕ) : Type 0 where
  pub over : a * 2 ≤ b * 2 + d
  pub under : b * 2 ≤ a * 2 + d

-- ---- a fraction rounded to a whole number moves by half at most
closest_near : (a b : ℕ) → 0 < b → Half (closest a b * b) a b
closest_near a b B = go (le_or_lt (a % b * 2 + a / b % 2) b)
  where
    d : a / b * b + a % b ≡ a
    d = div-add-mod' a b

    r : a % b < b
    r = mod-lt a B

    next : (a / b + 1) * b ≡ a / b * b + b
    next = add-mul (a / b) 1 b ∙ ap (λ (x : ℕ). a / b * b + x) (one-mul b)

    go : (a % b * 2 + a / b % 2 ≤ b) ⊎ (b < a % b * 2 + a / b % 2) → Half (closest a b * b) a b
    go (inl l) = subst (λ (x : ℕ). Half (x * b) a b) (sym (closest_down a b l)) (record { over = omega (arith, d, r, next); under = omega (arith, d, r, next) })
    go (inr l) = subst (λ (x : ℕ). Half (x * b) a b) (sym (closest_up a b l)) (record { over = omega (arith, d, r, next); under = omega (arith, d, r, next) })

-- ---- where digits are dropped, the kept number has as many as the format keeps
all_in_use : (z p : ℕ) → 0 < p → 0 < z - p → p - 1 + (z - p) < z
all_in_use z p P h = omega arith

kept_ge : (p n den : ℕ) → 0 < p → 0 < drop p n den → 2 ^ (p - 1) ≤ kept p n den
kept_ge p n den P K =
    let k = drop p n den in
    let u = den * 2 ^ k in
    let w = n / den in
    let a : 2 ^ (p - 1) * 2 ^ k ≤ w = le_trans (le_of_eq (sym (pow-add 2 (p - 1) k))) (size_reaches w (p - 1 + k) (all_in_use (size w) p P K)) in
    le_trans (subst (λ (x : ℕ). 2 ^ (p - 1) ≤ x) (div-div-eq-div-mul n den (2 ^ k)) ((le-div_iff_mul-le (pow_pos k)).1 a))
    (nearest-ge (n / u) (compare (n % u * 2) u))

-- ---- a value that the fraction reaches is reached by the result
pub grid_ge : (p n den q j : ℕ) → 0 < p → 0 < den → q < 2 ^ p → q * 2 ^ j * den ≤ n → q * 2 ^ j ≤ kept p n den * 2 ^ drop p n den
grid_ge p n den q j P D small h = go (le_or_lt (drop p n den) j)
  where
    room : (p j k : ℕ) → 0 < p → j < k → p + j ≤ p - 1 + k
    room p j k P l = omega arith

    some_of : (j k : ℕ) → j < k → 0 < k
    some_of j k l = omega arith

    go : (drop p n den ≤ j) ⊎ (j < drop p n den) → q * 2 ^ j ≤ kept p n den * 2 ^ drop p n den
    go (inl l) =
        let k = drop p n den in
        let u = den * 2 ^ k in
        let r = q * 2 ^ (j - k) in
        let e : r * 2 ^ k ≡ q * 2 ^ j = pow_split q j k l in
        let U : 0 < u = mul-pos D (pow_pos k) in
        let n-ge : r * u ≤ n =
        le_trans (le_of_eq (ap (λ (x : ℕ). r * x) (mul_comm den (2 ^ k)) ∙ sym (mul_assoc r (2 ^ k) den) ∙ ap (λ (x : ℕ). x * den) e)) h in
        let c : r ≤ closest n u = le_trans (le_of_eq (sym (closest_whole r u U))) (closest_mono (r * u) u n u U U (mul-le-mul_right u n-ge)) in
        le_trans (le_of_eq (sym e)) (mul-le-mul_right (2 ^ k) c)
    go (inr l) =
        let k = drop p n den in
        le_trans (le_of_lt (shl_lt p j small))
        (le_trans (pow_mono (room p j k P l))
        (le_trans (le_of_eq (pow-add 2 (p - 1) k)) (mul-le-mul_right (2 ^ k) (kept_ge p n den P (some_of j k l)))))

-- ---- n / den units rounded, below 2 ^ (p + j) or just there: half of 2 ^ j units
wider : (a b d e : ℕ) → d ≤ e → Half a b d → Half a b e
wider a b d e l h = record { over = omega arith; under = omega arith }

equal : (a b d : ℕ) → a ≡ b → Half a b d
equal a b d e = record { over = omega arith; under = omega arith }

-- 2 ^ (p + j) is a value
top_value : (p j : ℕ) → 0 < p → 2 ^ (p - 1) * 2 ^ (j + 1) ≡ 2 ^ (p + j)
top_value p j P = sym (pow-add 2 (p - 1) (j + 1)) ∙ ap (λ (x : ℕ). 2 ^ x) (put p j P)
  where
    put : (p j : ℕ) → 0 < p → p - 1 + (j + 1) ≡ p + j
    put p j P = omega arith

top_digits : (p : ℕ) → 0 < p → 2 ^ (p - 1) < 2 ^ p
top_digits p P = pow-lt (pre p P)
  where
    pre : (p : ℕ) → 0 < p → p - 1 < p
    pre p P = omega arith

grid_near : (p n den j : ℕ) → 0 < p → 0 < den → n ≤ 2 ^ (p + j) * den → Half (kept p n den * 2 ^ drop p n den * den) n (den * 2 ^ j)
grid_near p n den j P D h = go (eq-or-lt_of_le h)
  where
    go : (n ≡ 2 ^ (p + j) * den) ⊎ (n < 2 ^ (p + j) * den) → Half (kept p n den * 2 ^ drop p n den * den) n (den * 2 ^ j)
    go (inl e) =
        let E : n ≡ 2 ^ (p - 1) * 2 ^ (j + 1) * den = e ∙ ap (λ (x : ℕ). x * den) (sym (top_value p j P)) in
        let lo = grid_ge p n den (2 ^ (p - 1)) (j + 1) P D (top_digits p P) (le_of_eq (sym E)) in
        let hi = grid_le p n den (2 ^ (p - 1)) (j + 1) D (top_digits p P) (le_of_eq E) in
        equal (kept p n den * 2 ^ drop p n den * den) n (den * 2 ^ j) (ap (λ (x : ℕ). x * den) (le_antisymm hi lo) ∙ sym E)
    go (inr l) =
        let k = drop p n den in
        let c = closest n (den * 2 ^ k) in
        let k-le : k ≤ j = spare (size (n / den)) p j (size-le (n / den) (p + j) ((div-lt_iff_lt-mul D).1 l)) in
        subst (λ (x : ℕ). Half x n (den * 2 ^ j)) (ap (λ (x : ℕ). c * x) (mul_comm den (2 ^ k)) ∙ sym (mul_assoc c (2 ^ k) den))
        (wider (c * (den * 2 ^ k)) n (den * 2 ^ k) (den * 2 ^ j) (mul-le-mul_left den (pow_mono k-le)) (closest_near n (den * 2 ^ k) (mul-pos D (pow_pos k))))

-- ---- what `round` gives, with either sign
pub round_value : (f : Format) (s : Bool) (a c : ℕ) → grid f a c < overflow f → HasValue (round f s a c) s (grid f a c) (2 ^ low f)
round_value f s a c h =
    subst (λ (z : Float). HasValue z s (grid f a c) (2 ^ low f)) (sym (round_is f s a c))
    (units_val f s (kept (prec f) (a * 2 ^ low f) c) (drop (prec f) (a * 2 ^ low f) c) h)

-- THE ROUNDING LEMMA. A fraction num / den of at most 2 ^ (prec + j) of the format's smallest values, 2 ^ -low, which is below the overflow, rounds to a finite
-- g / 2 ^ low with its sign,
-- and g / 2 ^ low differs from num / den by half of 2 ^ (j - low) at most, that is by half a unit in the last place of the numbers just below the bound.
pub record Rounded (f : Format) (s : Bool) (num den j : ℕ) (x : Float) : Type 0 where
  pub g : ℕ
  pub has : HasValue x s g (2 ^ low f)
  pub near : Half (g * den) (num * 2 ^ low f) (den * 2 ^ j)
  pub most : g ≤ 2 ^ (prec f + j)

pub round_near : (f : Format) (s : Bool) (num den j : ℕ) → 0 < den → num * 2 ^ low f ≤ 2 ^ (prec f + j) * den → prec f + j < low f + suc (emax f)
    → Rounded f s num den j (round f s num den)
round_near f s num den j D h fine =
    let p = prec f in
    let P : 0 < p = two-le_pos p (two f) in
    let t = top_value p j P in
    let l : grid f num den ≤ 2 ^ (p + j) =
    le_trans
    (grid_le p (num * 2 ^ low f) den (2 ^ (p - 1)) (j + 1) D (top_digits p P) (le_trans h (le_of_eq (ap (λ (x : ℕ). x * den) (sym t)))))
    (le_of_eq t) in
    record {
      g = grid f num den;
      has = round_value f s num den (lt_of_le_of_lt l (pow-lt fine));
      near = grid_near p (num * 2 ^ low f) den j P D h;
      most = l;
    }
