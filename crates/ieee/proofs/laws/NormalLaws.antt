-- A significand of at most 53 digits with its leading one moved to 61, and to an even place for a root. Assumes nothing.
use Rattle.std.specs.Prelude.{◌≡◌, ℕ, suc, ◌+◌, ◌-◌, ◌*◌, ◌%◌, ◌^◌, ◌<◌, ◌≤◌, ◌⊎◌}
use Rattle.std.proofs.Common.{sym, ap, ◌∙◌, subst, inl, inr, le_trans, le_of_eq, lt_of_lt_of_le, lt_of_le_of_lt, eq-zero-or-pos, zero-mul, mul_assoc, mul-le-mul_right, mul-lt-mul_of_pos_right, arith, lit≤, lit<, pow-add, pow_pos, pow_mono}
use Rattle.std.specs.Int.Count.{count_leading_zeros, leading_of_zero}
use Rattle.std.proofs.lemmas.Nat.{leading_top, leading_le}
use Rattle.ieee.specs.Normal.{shift_of}
use Rattle.ieee.proofs.laws.Numbers.{pow_lt_back}

pub record Placed (m : ℕ) : Type 0 where
  pub high : m * 2 ^ shift_of m < 2 ^ 62
  pub low : 0 < m → 2 ^ 61 ≤ m * 2 ^ shift_of m
  pub full : 2 ^ 52 ≤ m → shift_of m ≤ 9
  pub most : shift_of m ≤ 62
  pub short : 0 < m → shift_of m ≤ 61
  pub some : 9 ≤ shift_of m
  pub count : count_leading_zeros 64 m ≤ 64
  pub back : shift_of m + 2 ≡ count_leading_zeros 64 m

pub placed : (m : ℕ) → m < 2 ^ 53 → Placed m
placed m h = go (eq-zero-or-pos m)
  where
    go : (m ≡ 0) ⊎ (0 < m) → Placed m
    go (inl z) =
        let a : count_leading_zeros 64 m ≡ 64 = ap (count_leading_zeros 64) z ∙ leading_of_zero 64 in
        record {
          high = subst (λ (x : ℕ). x < 2 ^ 62) (sym (ap (λ (x : ℕ). x * 2 ^ shift_of m) z ∙ zero-mul (2 ^ shift_of m))) (lit< tt);
          low = λ p. omega arith;
          full = λ p. omega arith;
          most = omega arith;
          short = λ p. omega arith;
          some = omega arith;
          count = leading_le 64 m;
          back = omega arith;
        }
    go (inr M) =
        let z = count_leading_zeros 64 m in
        let t = leading_top 64 m M (lt_of_lt_of_le h (lit≤ tt)) in
        let j = t.0 in
        let e : z + suc j ≡ 64 = t.1 in
        let b : j < 53 = pow_lt_back j 53 (lt_of_le_of_lt t.2 h) in
        let c = shift_of m in
        record {
          high = lt_of_lt_of_le (mul-lt-mul_of_pos_right t.3 (pow_pos c))
              (le_trans (le_of_eq (sym (pow-add 2 (suc j) c))) (pow_mono {i = suc j + c} {j = 62} (omega arith)));
          low = λ _. le_trans (pow_mono {i = 61} {j = j + c} (omega arith)) (le_trans (le_of_eq (pow-add 2 j c)) (mul-le-mul_right (2 ^ c) t.2));
          full = λ f. let d : 52 < suc j = pow_lt_back 52 (suc j) (lt_of_le_of_lt f t.3) in omega arith;
          most = omega arith;
          short = λ _. omega arith;
          some = omega arith;
          count = leading_le 64 m;
          back = omega arith;
        }

-- ---- one or two places more, so that the place y less the shift is even
abbrev pub even_of : ℕ → ℕ → ℕ
even_of m y = shift_of m + (2 - (y + shift_of m) % 2)

pub record Evened (m y : ℕ) : Type 0 where
  pub is : m * 2 ^ shift_of m * 2 ^ (2 - (y + shift_of m) % 2) ≡ m * 2 ^ even_of m y
  pub low : 2 ^ 62 ≤ m * 2 ^ even_of m y
  pub high : m * 2 ^ even_of m y < 2 ^ 64
  pub most : even_of m y ≤ 63
  pub even : (y + even_of m y) % 2 ≡ 0

pub evened : (m y : ℕ) → 0 < m → m < 2 ^ 53 → Evened m y
evened m y M small =
    let p = placed m small in
    let w = m * 2 ^ shift_of m in
    let k = 2 - (y + shift_of m) % 2 in
    let is : w * 2 ^ k ≡ m * 2 ^ even_of m y = mul_assoc m (2 ^ shift_of m) (2 ^ k) ∙ ap (λ (x : ℕ). m * x) (sym (pow-add 2 (shift_of m) k)) in
    let one : 2 ^ 1 ≤ 2 ^ k = pow_mono {i = 1} {j = k} (omega arith) in
    let two : 2 ^ k ≤ 2 ^ 2 = pow_mono {i = k} {j = 2} (omega arith) in
    let a : w * 2 ^ k < 2 ^ 62 * 2 ^ k = mul-lt-mul_of_pos_right p.high (pow_pos k) in
    let b : 2 ^ 61 * 2 ^ k ≤ w * 2 ^ k = mul-le-mul_right (2 ^ k) (p.low M) in
    let s = p.short M in
    record {
      is = is;
      low = omega arith;
      high = omega arith;
      most = omega arith;
      even = omega arith;
    }
