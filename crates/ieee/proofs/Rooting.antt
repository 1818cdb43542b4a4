-- The loop of `root_digits`, and what `root` makes of a finite number above zero. Assumes nothing.
use Rattle.std.proofs.Common.{◌≡◌, ℕ, ◌+◌, ◌-◌, ◌*◌, ◌/◌, ◌%◌, ◌^◌, ◌<◌, ◌≤◌, false, T, sym, ap, ◌∙◌, subst, mul-pos, mul_left_comm, add-one, arith, lit<, lit≤, pow_pos, pow_mono}
use native.Mathlib.Nat.{pow-succ'}
use lib.Ieee.{Float, binary64, of_bits, to_bits, fits}
use lib.Ieee.Exact.{HasValue}
use lib.Ieee.Bits.{of_bits-to_bits}
use Rattle.ieee.specs.Root.{rooted}
use Rattle.ieee.proofs.laws.Numbers.{square_lt, square_even, square_odd, next_square}
use Rattle.ieee.proofs.laws.NormalLaws.{even_of, evened}
use Rattle.ieee.proofs.laws.RootValue.{rooted_value, rooted_fits, root_bits}

-- ---- the loop of `root_digits`: i digits of the root are found, r, and what is left of the digits that were brought down, w * 4 ^ i / 2 ^ 64, is `rest`
pub record Found (w m rest r i : ℕ) : Type 0 where
  pub turns : i ≤ 54
  pub digits : r < 2 ^ i
  pub bound : 2 ^ i ≤ 2 ^ 54
  pub left : rest ≤ 2 * r
  pub total : (r * r + rest) * 2 ^ 64 + m ≡ w * 4 ^ i
  pub word : m < 2 ^ 64

pub found_none : (w : ℕ) → w < 2 ^ 64 → Found w w 0 0 0
found_none w h = record { turns = omega arith; digits = lit< tt; bound = lit≤ tt; left = omega arith; total = omega arith; word = h }

more : (w i : ℕ) → w * 4 ^ (i + 1) ≡ 4 * (w * 4 ^ i)
more w i = ap (λ (x : ℕ). w * x) (ap (λ (x : ℕ). 4 ^ x) (add-one i) ∙ pow-succ' 4 i) ∙ mul_left_comm w 4 (4 ^ i)

twice : (i : ℕ) → 2 ^ (i + 1) ≡ 2 * 2 ^ i
twice i = ap (λ (x : ℕ). 2 ^ x) (add-one i) ∙ pow-succ' 2 i

module _ (w m rest r i n : ℕ) (f : Found w m rest r i) (go_on : i < 54) (down : n ≡ m % 2 ^ 62) where
  pub found_zero : rest * 4 + m / 2 ^ 62 ≤ r * 4 → Found w (n * 4) (rest * 4 + m / 2 ^ 62) (r * 2) (i + 1)
  found_zero h =
      let s = square_even r in
      let p = more w i in
      let t = twice i in
      record {
        turns = omega arith;
        digits = omega arith;
        bound = pow_mono {i = i + 1} {j = 54} (omega arith);
        left = omega arith;
        total = omega arith;
        word =
            omega arith;
      }

  pub found_one : r * 4 < rest * 4 + m / 2 ^ 62 → Found w (n * 4) (rest * 4 + m / 2 ^ 62 - (r * 4 + 1)) (r * 2 + 1) (i + 1)
  found_one h =
      let s = square_odd r in
      let p = more w i in
      let t = twice i in
      record {
        turns = omega arith;
        digits = omega arith;
        bound = pow_mono {i = i + 1} {j = 54} (omega arith);
        left = omega arith;
        total = omega arith;
        word =
            omega arith;
      }

pub found_same : {w m rest rest' r r' i : ℕ} → rest' ≡ rest → r' ≡ r → Found w m rest r i → Found w m rest' r' i
found_same {w} {m} {rest} {rest'} {r} {r'} {i} p q f = subst (λ (x : ℕ). Found w m x r' i) (sym p) (subst (λ (x : ℕ). Found w m rest x i) (sym q) f)

pub found_all : (w m rest r i : ℕ) → Found w m rest r i → 54 ≤ i → (r * r ≤ w * 2 ^ 44) × (w * 2 ^ 44 < (r + 1) * (r + 1))
found_all w m rest r i f h =
    let e : i ≡ 54 = omega arith in
    let t : (r * r + rest) * 2 ^ 64 + m ≡ w * 4 ^ 54 = f.total ∙ ap (λ (x : ℕ). w * 4 ^ x) e in
    let s = next_square r in
    (omega arith, omega arith)

pub root_small : (w R : ℕ) → w < 2 ^ 64 → R * R ≤ w * 2 ^ 44 → R < 2 ^ 54
root_small w R h l = square_lt R (2 ^ 54) (omega arith)

-- ---- what `root` makes of a finite number above zero: R has the digits of the root of w * 2 ^ 44, w being m at an even place
pub root_is : (x : Float) (m y R : ℕ) → T (fits binary64 x) → 0 < m → m < 2 ^ 53 → y ≤ 2045 → HasValue x false (m * 2 ^ y) (2 ^ 1074)
    → R * R ≤ m * 2 ^ even_of m y * 2 ^ 44 → m * 2 ^ even_of m y * 2 ^ 44 < (R + 1) * (R + 1)
    → of_bits binary64 ((1032 + y - even_of m y) / 2 * 2 ^ 52 + (R + 1) / 2) ≡ rooted x
root_is x m y R F M small Y v lo hi =
    let n = evened m y M small in
    let c = even_of m y in
    let h = (y + 84 - c) / 2 in
    let place : y + 84 ≡ c + 2 * h = omega arith in
    let word : (1032 + y - c) / 2 * 2 ^ 52 + (R + 1) / 2 ≡ (474 + h) * 2 ^ 52 + (R + 1) / 2 = ap (λ (k : ℕ). k * 2 ^ 52 + (R + 1) / 2) (omega arith) in
    ap (of_bits binary64)
    (word
    ∙ sym (ap (to_bits binary64) (rooted_value x (m * 2 ^ y) (mul-pos M (pow_pos y)) v)
    ∙ root_bits m y c h R n.low n.high place lo hi (omega arith)))
    ∙ of_bits-to_bits binary64 (rooted x) (rooted_fits x F)
