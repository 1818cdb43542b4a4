-- Small laws on whole numbers and powers of two. Assumes nothing.
use Rattle.std.specs.Prelude.{◌≡◌, ℕ, suc, ◌+◌, ◌-◌, ◌*◌, ◌/◌, ◌%◌, ◌^◌, ◌<◌, ◌≤◌, Bool, true, false, not, T, ◌⊎◌, nat_le, refl}
use Rattle.std.proofs.Common.{sym, ap, ◌∙◌, inl, inr, le_of_eq, le_of_lt, lt_of_lt_of_le, lt_of_le_of_lt, lt_of_not-le, not-le_of_lt, le_of_suc-le-suc, lt_irrefl, eq-zero-or-pos, one-mul, mul_assoc, mul_comm, mul_left_comm, mul-add, add-mul, mul-le-mul, mul-lt-mul_of_pos_right, mod-eq_of_lt, arith, leb→le, pow-add, pow_mono}
use Rattle.std.proofs.Math.Nat.{pow-succ'}
use Rattle.std.proofs.Math.Dec.{nleb→lt}
use Rattle.std.proofs.Math.Pow.{pow-lt}
use Rattle.std.specs.Float.Ieee.{size}
use Rattle.std.specs.Float.Ieee.Digits.{size-lt, back}

pub le_or_lt : (a b : ℕ) → (a ≤ b) ⊎ (b < a)
le_or_lt a b = go (nat_le a b) (leb→le a b) (nleb→lt a b)
  where
    go : (t : Bool) → (T t → a ≤ b) → (T (not t) → b < a) → (a ≤ b) ⊎ (b < a)
    go true h k = inl (h tt)
    go false h k = inr (k tt)

-- ---- powers of two
pub pow_le_back : (a b : ℕ) → 2 ^ a ≤ 2 ^ b → a ≤ b
pow_le_back a b h = le_of_suc-le-suc (lt_of_not-le (λ (g : suc b ≤ a). lt_irrefl (2 ^ b) (lt_of_lt_of_le (pow-lt g) h)))

pub pow_lt_back : (a b : ℕ) → 2 ^ a < 2 ^ b → a < b
pow_lt_back a b h = lt_of_not-le (λ (g : b ≤ a). lt_irrefl (2 ^ a) (lt_of_lt_of_le h (pow_mono g)))

pub pow_twice : (p : ℕ) → 0 < p → 2 ^ p ≡ 2 * 2 ^ (p - 1)
pow_twice p h = ap (λ (x : ℕ). 2 ^ x) (pre p h) ∙ pow-succ' 2 (p - 1)
  where
    pre : (p : ℕ) → 0 < p → p ≡ suc (p - 1)
    pre p h = omega arith

-- n * 2 ^ j by way of a smaller power
pub pow_split : (n j k : ℕ) → k ≤ j → n * 2 ^ (j - k) * 2 ^ k ≡ n * 2 ^ j
pow_split n j k l = mul_assoc n (2 ^ (j - k)) (2 ^ k) ∙ ap (λ (x : ℕ). n * x) (sym (pow-add 2 (j - k) k) ∙ ap (λ (x : ℕ). 2 ^ x) (back j k l))

-- `1u64 << r`
pub one_shl : (r : ℕ) → r < 64 → 1 * 2 ^ r % 2 ^ 64 ≡ 2 ^ r
one_shl r h = ap (λ (x : ℕ). x % 2 ^ 64) (one-mul (2 ^ r)) ∙ mod-eq_of_lt (pow-lt h)

-- a number of j + 1 digits or more
pub size_gt : (n j : ℕ) → 2 ^ j ≤ n → j < size n
size_gt n j h = lt_of_not-le (λ (g : size n ≤ j). not-le_of_lt (lt_of_lt_of_le (size-lt n) (pow_mono g)) h)

-- ---- squares
pub square_mono : (a b : ℕ) → a < b → a * a < b * b
square_mono a b h = lt_of_le_of_lt (mul-le-mul {n₁ = a} {m₁ = a} {n₂ = a} {m₂ = b} (le_of_eq refl) (le_of_lt h)) (mul-lt-mul_of_pos_right h (omega arith))

pub square_lt : (a b : ℕ) → a * a < b * b → a < b
square_lt a b h = lt_of_not-le (λ (g : b ≤ a). not-le_of_lt h (mul-le-mul g g))

pub square_even : (r : ℕ) → r * 2 * (r * 2) ≡ 4 * (r * r)
square_even r = simp (mul_assoc, mul_comm, mul_left_comm) (omega arith)

pub square_odd : (r : ℕ) → (r * 2 + 1) * (r * 2 + 1) ≡ 4 * (r * r) + 4 * r + 1
square_odd r =
    let a : (r * 2 + 1) * (r * 2 + 1) ≡ (r * 2 + 1) * (r * 2) + (r * 2 + 1) * 1 = mul-add (r * 2 + 1) (r * 2) 1 in
    let b : (r * 2 + 1) * (r * 2) ≡ r * 2 * (r * 2) + 1 * (r * 2) = add-mul (r * 2) 1 (r * 2) in
    let d = square_even r in
    omega arith

pub next_square : (r : ℕ) → (r + 1) * (r + 1) ≡ r * r + 2 * r + 1
next_square r =
    let a : (r + 1) * (r + 1) ≡ (r + 1) * r + (r + 1) * 1 = mul-add (r + 1) r 1 in
    let b : (r + 1) * r ≡ r * r + 1 * r = add-mul r 1 r in
    omega arith

-- a number is even or odd
pub split_half : (n : ℕ) → (n ≡ n / 2 * 2) ⊎ (n ≡ n / 2 * 2 + 1)
split_half n = elim (eq-zero-or-pos (n % 2)) [ inl z ↦ inl (omega arith) | inr z ↦ inr (omega arith) ]
