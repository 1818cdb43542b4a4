-- How long a text is. Assumes nothing.
use Rattle.std.specs.Prelude.{◌≡◌, refl, Bool, true, false, cond, ℕ, zero, suc, ◌+◌, ◌*◌, ◌/◌, ◌%◌, ◌≤◌, ltb, length}
use mathlib.Core.List.{List, [], ◌∷◌, ◌++◌}
use native.Mathlib.Omega.{arith}
use Rattle.std.proofs.Math.ListN.{length-append}
use Rattle.io.specs.Digits.{hex_digit_ascii, last_digits}
use Rattle.replay_text.specs.Text.{letters, decimal_by, hexadecimal, line, each}

-- a number in decimal: no longer than its steps
pub decimal_length : (k n : ℕ) → length (decimal_by k n) ≤ k
unfolding decimal_by
decimal_length zero n = omega arith
decimal_length (suc k) n = go (ltb n 10) (decimal_length k (n / 10))
  where
    go : (b : Bool) → length (decimal_by k (n / 10)) ≤ k → length (cond b (hex_digit_ascii n ∷ []) (decimal_by k (n / 10) ++ (hex_digit_ascii (n % 10) ∷ []))) ≤ suc k
    go true h = omega arith
    go false h = omega (arith, length-append (decimal_by k (n / 10)) (hex_digit_ascii (n % 10) ∷ []))

digits_length : (b k n : ℕ) → length (last_digits b k n) ≡ k
digits_length b zero n = refl
digits_length b (suc k) n = omega (arith, length-append (last_digits b k (n / b)) (hex_digit_ascii (n % b) ∷ []), digits_length b k (n / b))

pub hexadecimal_length : (n : ℕ) → length (hexadecimal n) ≡ 16
unfolding hexadecimal
hexadecimal_length n = digits_length 16 16 n

-- each word, and the space or the line end behind it
abbrev pub spread : List (List ℕ) → ℕ
spread [] = 0
spread (w ∷ ws) = length w + 1 + spread ws

pub line_length : (w : List ℕ) (ws : List (List ℕ)) → length (line (w ∷ ws)) ≡ spread (w ∷ ws)
unfolding letters line
line_length w [] = omega (arith, length-append w (letters "\n"))
line_length w (v ∷ ws) = omega (arith, length-append w (letters " " ++ line (v ∷ ws)), line_length v ws)

-- the texts of a list's members, none longer than n
module _ {A : Type 0} (f : A → List ℕ) (n : ℕ) (h : (a : A) → length (f a) ≤ n) where
  pub each_length : (l : List A) → length (each f l) ≤ length l * n
  unfolding each
  each_length [] = omega arith
  each_length (a ∷ l) = omega (arith, h a, each_length l, length-append (f a) (each f l))
