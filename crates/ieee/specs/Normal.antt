-- An f64's bits taken apart, and its significand normalised by the count of its leading zeros. Definitions only.
use Rattle.std.specs.Prelude.{◌≡◌, ℕ, ◌+◌, ◌-◌, ◌*◌, ◌/◌, ◌%◌, ◌^◌, min}
use Rattle.std.specs.Int.Count.{count_leading_zeros}
use Rattle.ieee.specs.declared.Normal.{Normal}

-- The exponent's field of the bits b.
abbrev pub exponent_in : ℕ → ℕ
exponent_in b = b / 2 ^ 52 % 2048

-- An f64 of the exponent's field e and the digits t is significand_of e t * 2 ^ (e - 1) of the format's smallest values: the leading digit is there unless e is
-- 0, and a field of 0 counts as 1.
abbrev pub significand_of : ℕ → ℕ → ℕ
significand_of e t = t + 2 ^ 52 * min e 1

abbrev pub significand_in : ℕ → ℕ
significand_in b = significand_of (exponent_in b) (b % 2 ^ 52)

-- The leading one of a significand goes to 61.
abbrev pub shift_of : ℕ → ℕ
shift_of m = count_leading_zeros 64 m - 2

-- What `normalise` makes of the bits b.
pub record Normalised (b : ℕ) (n : Normal) : Type 0 where
  pub place : n.place ≡ exponent_in b - 1
  pub shift : n.shift ≡ shift_of (significand_in b)
  pub digits : n.digits ≡ significand_in b * 2 ^ shift_of (significand_in b)
