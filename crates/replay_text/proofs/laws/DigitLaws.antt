-- The fewest digits of a number are its decimal text. Assumes nothing.
use Rattle.std.specs.Prelude.{◌≡◌, List, [], ◌∷◌, ◌++◌, ℕ, zero, suc, ◌-◌, ◌/◌, ◌%◌, ◌^◌, ◌≤◌, ◌<◌}
use Rattle.std.proofs.Common.{ap, le_trans, pow-suc, mod-eq_of_lt, div-lt_iff_lt-mul, le-div_iff_mul-le, arith, lt-ltb, le-ltb}
use Rattle.std.proofs.Math.Nat.{pow-le-pow_right}
use Rattle.std.proofs.Math.Decide.{dec_le}
use Rattle.io.specs.Digits.{hex_digit_ascii, last_digits, IsDigitCount}
use Rattle.replay_text.specs.Text.{decimal_by}

-- a number below base ^ m takes at most m digits
pub fewest_most : (base least n r m : ℕ) → 0 < base → least ≤ m → n < base ^ m → IsDigitCount base least n r → r ≤ m
fewest_most base least n r m b l h f = go (dec_le r m)
  where
    go : Dec (r ≤ m) → r ≤ m
    go (yes k) = k
    go (no k) = absurd (let p = le_trans (pow-le-pow_right b {i = m} {j = r - 1} (omega arith)) (f.2 (omega arith)) in omega arith)

one_less : (n : ℕ) → suc n - 1 ≡ n
one_less n = omega arith

pub fewest_decimal : (k n r : ℕ) → r ≤ k → IsDigitCount 10 1 n r → last_digits 10 r n ≡ decimal_by k n
unfolding decimal_by
fewest_decimal zero n r h f = absurd (omega (arith, f.0))
fewest_decimal (suc k) n zero h f = absurd (omega (arith, f.0))
fewest_decimal (suc k) n (suc zero) h f = rw (mod-eq_of_lt f.1, lt-ltb n 10 f.1)
fewest_decimal (suc k) n (suc (suc r)) h f =
    let least : 10 ^ suc r ≤ n = rw (one_less (suc r)) at (f.2 (omega arith)) in
    rw (le-ltb n 10 (le_trans (pow-le-pow_right (omega arith) {i = 1} {j = suc r} (omega arith)) least))
    (ap (λ (l : List ℕ). l ++ (hex_digit_ascii (n % 10) ∷ []))
    (fewest_decimal k (n / 10) (suc r) (omega arith) (
      omega arith,
      (div-lt_iff_lt-mul {k = 10} {x = n} {y = 10 ^ suc r} (omega arith)).1 (rw (pow-suc 10 (suc r)) at f.1),
      λ u. rw (one_less r) ((le-div_iff_mul-le {k = 10} {x = 10 ^ r} {y = n} (omega arith)).1 (rw (pow-suc 10 r) at least)),
    )))
