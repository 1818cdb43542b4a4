-- `rooted` sees only the value of a float, and what it makes of one in bits and in units. Assumes nothing.
use Rattle.std.specs.Prelude.{◌≡◌, ℕ, zero, suc, ◌+◌, ◌-◌, ◌*◌, ◌/◌, ◌%◌, ◌^◌, ◌<◌, ◌≤◌, min, Bool, true, false, cond, not, T, ◌⊎◌, ◌≢◌, nat_le, to_bits, refl, Float}
use Rattle.std.proofs.Common.{sym, ap, ◌∙◌, subst, mul-one, mul_assoc, mul_comm, mul_left_comm, mul_right_comm, add-mul, one-mul, le_of_eq, le_trans, lt_of_lt_of_le, lt_of_le_of_lt, lt_irrefl, zero-lt-suc, zero-mul, mul-pos, mul-le-mul_right, mul-lt-mul_of_pos_right, mul-div_cancel, arith, inl, inr, true≢false, leb→le, lit≤, pow-add, pow_pos, pow_mono, shl_lt}
use Rattle.std.proofs.Math.Nat.{mul-mul-mul_comm, pow-succ', pow-le-pow_left}
use Rattle.std.proofs.lemmas.Bool.{false≢true}
use Rattle.std.proofs.Math.Dec.{nleb→lt}
use Rattle.std.proofs.Math.Arith.{digits_div, digits_mod}
use Rattle.std.specs.Float.{nan, inf, fin, binary64}
use Rattle.std.specs.Float.Ieee.{up, down, size, units, round, fits}
use Rattle.std.specs.Float.Ieee.Digits.{size-lt}
use Rattle.std.specs.Float.Ieee.Fits.{up_pos, down_pos, round-fits, nan-fits}
use Rattle.std.specs.Float.Ieee.Exact.{HasValue, units_val}
use Rattle.std.specs.Float.Ieee.Nearest.{closest}
use Rattle.ieee.specs.Root.{isqrt_in, isqrt, rooted}
use Rattle.ieee.proofs.laws.Numbers.{square_lt, square_even, square_odd, next_square, split_half}
use Rattle.ieee.proofs.laws.RoundedBits.{closest_up, closest_down, round_units, round_bits}

-- ---- the integer square root
isqrt_in_is : (d n : ℕ) → n < 4 ^ d → (isqrt_in d n * isqrt_in d n ≤ n) × (n < (isqrt_in d n + 1) * (isqrt_in d n + 1))
unfolding isqrt_in
isqrt_in_is zero n h = (omega arith, h)
isqrt_in_is (suc d) n h =
    let r = isqrt_in d (n / 4) in
    let p : 4 ^ suc d ≡ 4 * 4 ^ d = pow-succ' 4 d in
    let l : n / 4 < 4 ^ d = omega arith in
    let ih = isqrt_in_is d (n / 4) l in
    go r ih.0 ih.1 (nat_le ((r * 2 + 1) * (r * 2 + 1)) n) (leb→le _ _) (nleb→lt _ _)
  where
    go : (r : ℕ) → r * r ≤ n / 4 → n / 4 < (r + 1) * (r + 1) → (b : Bool) → (T b → (r * 2 + 1) * (r * 2 + 1) ≤ n) → (T (not b) → n < (r * 2 + 1) * (r * 2 + 1))
        → (cond b (r * 2 + 1) (r * 2) * cond b (r * 2 + 1) (r * 2) ≤ n) × (n < (cond b (r * 2 + 1) (r * 2) + 1) * (cond b (r * 2 + 1) (r * 2) + 1))
    go r lo hi true y z = let g = y tt in let a = next_square (r * 2 + 1) in let b = square_odd r in let d = next_square r in (g, omega arith)
    go r lo hi false y z = let g = z tt in let a = square_even r in (omega arith, g)

pub isqrt_is : (n : ℕ) → (isqrt n * isqrt n ≤ n) × (n < (isqrt n + 1) * (isqrt n + 1))
unfolding isqrt
isqrt_is n = isqrt_in_is (size n) n (lt_of_lt_of_le (size-lt n) (pow-le-pow_left {n = 2} {m = 4} (lit≤ tt) (size n)))

-- ---- `rooted` sees only the value
not_none : (m u c a d : ℕ) → m * u * c ≡ a * d → 0 < a → 0 < d → m ≢ 0
not_none m u c a d e A D z =
    lt_irrefl 0 (subst (λ (x : ℕ). 0 < x) (sym e ∙ ap (λ (x : ℕ). x * u * c) z ∙ ap (λ (x : ℕ). x * c) (zero-mul u) ∙ zero-mul c) (mul-pos A D))

pub rooted_zero : (x : Float) (s : Bool) (c : ℕ) → 0 < c → HasValue x s 0 c → x ≡ rooted x
unfolding rooted
rooted_zero nan s c C h = absurd h
rooted_zero (inf t) s c C h = absurd h
rooted_zero (fin t zero e) s c C h = refl
rooted_zero (fin t (suc m) e) s c C h =
    absurd (lt_irrefl 0 (subst (λ (x : ℕ). 0 < x) (h.1 ∙ zero-mul (down e)) (mul-pos (mul-pos (zero-lt-suc m) (up_pos e)) C)))

pub rooted_negative : (x : Float) (a c : ℕ) → 0 < a → HasValue x true a c → nan ≡ rooted x
unfolding rooted
rooted_negative nan a c A h = absurd h
rooted_negative (inf t) a c A h = absurd h
rooted_negative (fin false m e) a c A h = absurd (false≢true h.0)
rooted_negative (fin true zero e) a c A h = absurd (not_none 0 (up e) c a (down e) h.1 A (down_pos e) refl)
rooted_negative (fin true (suc m) e) a c A h = refl

pub rooted_infinite : rooted (inf false) ≡ inf false
unfolding rooted
rooted_infinite = refl

pub rooted_minus : rooted (inf true) ≡ nan
unfolding rooted
rooted_minus = refl

pub rooted_nan : rooted nan ≡ nan
unfolding rooted
rooted_nan = refl

pub rooted_fits : (x : Float) → T (fits binary64 x) → T (fits binary64 (rooted x))
unfolding rooted
rooted_fits nan h = h
rooted_fits (inf true) h = nan-fits binary64
rooted_fits (inf false) h = h
rooted_fits (fin s zero e) h = h
rooted_fits (fin true (suc m) e) h = nan-fits binary64
rooted_fits (fin false (suc m) e) h = round-fits binary64 false (2 * isqrt (suc m * up e * 2 ^ 1074 / down e * 4 ^ 64) + 1) (2 ^ 602)

pub rooted_value : (x : Float) (a : ℕ) → 0 < a → HasValue x false a (2 ^ 1074) → rooted x ≡ round binary64 false (2 * isqrt (a * 4 ^ 64) + 1) (2 ^ 602)
unfolding rooted
rooted_value nan a A h = absurd h
rooted_value (inf t) a A h = absurd h
rooted_value (fin true m e) a A h = absurd (true≢false h.0)
rooted_value (fin false zero e) a A h = absurd (not_none 0 (up e) (2 ^ 1074) a (down e) h.1 A (down_pos e) refl)
rooted_value (fin false (suc m) e) a A h =
    ap (λ (n : ℕ). round binary64 false (2 * isqrt (n * 4 ^ 64) + 1) (2 ^ 602)) (ap (λ (x : ℕ). x / down e) h.1 ∙ mul-div_cancel a (down_pos e))

-- ---- from the root with 54 digits, R, to the rounded one: what is between R * p and (R + 1) * p, and half above, rounds to the nearest even multiple of p
half_up : (R S p u : ℕ) → u ≡ 4 * p → R * p ≤ S → S < (R + 1) * p → closest (2 * S + 1) u ≡ (R + 1) / 2
half_up R S p u e lo hi = go (split_half R)
  where
    step : (R + 1) * p ≡ R * p + p
    step = add-mul R 1 p ∙ ap (λ (x : ℕ). R * p + x) (one-mul p)

    fours : (j : ℕ) → j * u ≡ 4 * (j * p)
    fours j = ap (λ (x : ℕ). j * x) e ∙ mul_left_comm j 4 p

    go : (R ≡ R / 2 * 2) ⊎ (R ≡ R / 2 * 2 + 1) → closest (2 * S + 1) u ≡ (R + 1) / 2
    go (inl k) =
        let j = R / 2 in
        let a : R * p ≡ j * p * 2 = ap (λ (x : ℕ). x * p) k ∙ mul_right_comm j 2 p in
        let f = fours j in
        let s = step in
        let t = 2 * (S - R * p) + 1 in
        let parts : 2 * S + 1 ≡ j * u + t = omega arith in
        let small : t < u = omega arith in
        let q : (2 * S + 1) / u ≡ j = ap (λ (x : ℕ). x / u) parts ∙ digits_div j small in
        let r : (2 * S + 1) % u ≡ t = ap (λ (x : ℕ). x % u) parts ∙ digits_mod j small in
        closest_down (2 * S + 1) u (omega arith) ∙ q ∙ omega arith
    go (inr k) =
        let j = R / 2 in
        let a : R * p ≡ j * p * 2 + p = ap (λ (x : ℕ). x * p) k ∙ add-mul (j * 2) 1 p ∙ ap (λ (x : ℕ). x + 1 * p) (mul_right_comm j 2 p)
        ∙ ap (λ (x : ℕ). j * p * 2 + x) (one-mul p) in
        let f = fours j in
        let s = step in
        let t = 2 * (S - R * p) + 1 + 2 * p in
        let parts : 2 * S + 1 ≡ j * u + t = omega arith in
        let small : t < u = omega arith in
        let q : (2 * S + 1) / u ≡ j = ap (λ (x : ℕ). x / u) parts ∙ digits_div j small in
        let r : (2 * S + 1) % u ≡ t = ap (λ (x : ℕ). x % u) parts ∙ digits_mod j small in
        closest_up (2 * S + 1) u (omega arith) ∙ ap (λ (x : ℕ). x + 1) q ∙ omega arith

-- ---- the pattern of the root: w is m with its leading digit at 63 or 62, and R the 54 digits of the root of w * 2 ^ 44
module _ (m y c h R : ℕ) (low : 2 ^ 62 ≤ m * 2 ^ c) (high : m * 2 ^ c < 2 ^ 64) (place : y + 84 ≡ c + 2 * h) (lo : R * R ≤ m * 2 ^ c * 2 ^ 44)
    (hi : m * 2 ^ c * 2 ^ 44 < (R + 1) * (R + 1)) where
  abbrev S : ℕ
  S = isqrt (m * 2 ^ y * 4 ^ 64)

  all : m * 2 ^ y * 4 ^ 64 ≡ m * 2 ^ c * 2 ^ 44 * (2 ^ h * 2 ^ h)
  all =
      mul_assoc m (2 ^ y) (2 ^ 128)
      ∙ ap (λ (x : ℕ). m * x)
      (sym (pow-add 2 y 128) ∙ ap (λ (x : ℕ). 2 ^ x) sum ∙ pow-add 2 (c + 44) (h + h) ∙ ap (λ (x : ℕ). x * 2 ^ (h + h)) (pow-add 2 c 44)
      ∙ ap (λ (x : ℕ). 2 ^ c * 2 ^ 44 * x) (pow-add 2 h h))
      ∙ sym (mul_assoc m (2 ^ c * 2 ^ 44) (2 ^ h * 2 ^ h))
      ∙ ap (λ (x : ℕ). x * (2 ^ h * 2 ^ h)) (sym (mul_assoc m (2 ^ c) (2 ^ 44)))
    where
      sum : y + 128 ≡ c + 44 + (h + h)
      sum = omega arith

  square : (a : ℕ) → a * 2 ^ h * (a * 2 ^ h) ≡ a * a * (2 ^ h * 2 ^ h)
  square a = mul-mul-mul_comm a (2 ^ h) a (2 ^ h)

  pos : 0 < 2 ^ h * 2 ^ h
  pos = mul-pos (pow_pos h) (pow_pos h)

  from : R * 2 ^ h ≤ S
  from =
      let a : R * 2 ^ h * (R * 2 ^ h) ≤ m * 2 ^ y * 4 ^ 64 =
      le_trans (le_of_eq (square R)) (le_trans (mul-le-mul_right (2 ^ h * 2 ^ h) lo) (le_of_eq (sym all))) in
      let b : R * 2 ^ h < S + 1 = square_lt (R * 2 ^ h) (S + 1) (lt_of_le_of_lt a (isqrt_is (m * 2 ^ y * 4 ^ 64)).1) in
      omega arith

  to : S < (R + 1) * 2 ^ h
  to = square_lt S ((R + 1) * 2 ^ h)
      (lt_of_le_of_lt (le_trans (isqrt_is (m * 2 ^ y * 4 ^ 64)).0 (le_of_eq all))
      (lt_of_lt_of_le (mul-lt-mul_of_pos_right hi pos) (le_of_eq (sym (square (R + 1))))))

  pub R-low : 2 ^ 53 ≤ R
  R-low = let a : 2 ^ 53 < R + 1 = square_lt (2 ^ 53) (R + 1) (omega arith) in omega arith

  pub R-high : R < 2 ^ 54
  R-high = square_lt R (2 ^ 54) (omega arith)

  -- the digits of 2 * S + 1
  long : (a b : ℕ) → a + (h + 2) ≡ b + h → 2 ^ (a + (h + 2)) ≡ 2 ^ b * 2 ^ h
  long a b e = ap (λ (x : ℕ). 2 ^ x) e ∙ pow-add 2 b h

  S-high : 2 * S + 1 < 2 ^ (53 + (h + 2))
  S-high =
      let a : (R + 1) * 2 ^ h ≤ 2 ^ 54 * 2 ^ h = mul-le-mul_right (2 ^ h) (let r = R-high in omega arith) in
      let t = to in
      subst (λ (x : ℕ). 2 * S + 1 < x) (sym (long 53 55 (omega arith))) (omega arith)

  S-low : 2 ^ (52 + (h + 2)) ≤ 2 * S + 1
  S-low =
      let a : 2 ^ 53 * 2 ^ h ≤ R * 2 ^ h = mul-le-mul_right (2 ^ h) R-low in
      let f = from in
      subst (λ (x : ℕ). x ≤ 2 * S + 1) (sym (long 52 54 (omega arith))) (omega arith)

  pub root_bits : h ≤ 1500 → to_bits binary64 (round binary64 false (2 * S + 1) (2 ^ 602)) ≡ (474 + h) * 2 ^ 52 + (R + 1) / 2
  root_bits small =
      let q : closest (2 * S + 1) (2 ^ (h + 2)) ≡ (R + 1) / 2 = half_up R S (2 ^ h) (2 ^ (h + 2)) (pow-add 2 h 2 ∙ mul_comm (2 ^ h) 4) from to in
      let r = R-high in
      ap (λ (x : ℕ). to_bits binary64 (round binary64 false x (2 ^ 602))) (sym (mul-one (2 * S + 1)))
      ∙ round_bits binary64 (2 * S + 1) 0 602 (474 + h) (h + 2) (omega arith) S-high (λ _. S-low) false
      ∙ ap (λ (x : ℕ). 0 + min ((474 + h) * 2 ^ 52 + x) (2047 * 2 ^ 52)) q
      ∙ omega arith

  -- and what it is in units: (R + 1) / 2 times 2 ^ (474 + h)
  pub root_units : h ≤ 1500 → HasValue (round binary64 false (2 * S + 1) (2 ^ 602)) false ((R + 1) / 2 * 2 ^ (474 + h)) (2 ^ 1074)
  root_units small =
      let q : closest (2 * S + 1) (2 ^ (h + 2)) ≡ (R + 1) / 2 = half_up R S (2 ^ h) (2 ^ (h + 2)) (pow-add 2 h 2 ∙ mul_comm (2 ^ h) 4) from to in
      let r = R-high in
      let l : (R + 1) / 2 < 2 ^ 54 = omega arith in
      subst (λ (z : Float). HasValue z false ((R + 1) / 2 * 2 ^ (474 + h)) (2 ^ 1074))
      (sym (ap (λ (x : ℕ). round binary64 false x (2 ^ 602)) (sym (mul-one (2 * S + 1)))
      ∙ round_units binary64 (2 * S + 1) 0 602 (474 + h) (h + 2) (omega arith) S-high (λ _. S-low) false
      ∙ ap (λ (x : ℕ). units binary64 false x (474 + h)) q))
      (units_val binary64 false ((R + 1) / 2) (474 + h) (lt_of_lt_of_le (shl_lt 54 (474 + h) l) (pow_mono {i = 54 + (474 + h)} {j = 2098} (omega arith))))
