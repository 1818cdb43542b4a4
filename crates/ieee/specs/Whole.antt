-- What `ceiling` and `round_half_away` give. Definitions only.
use Rattle.std.specs.Prelude.{◌≡◌, ◌<◌, ◌≤◌, ℕ, ◌+◌, ◌-◌, ◌*◌, ◌/◌, ◌^◌, min, cond, Float}
use Rattle.std.specs.Float.{nan, inf, fin}
use Rattle.std.specs.Float.Ieee.{up, down}

-- a / c, for a c above 0: the least whole number that is not below it
abbrev pub ceil_div : ℕ → ℕ → ℕ
ceil_div a c = (a + (c - 1)) / c

-- and the nearest whole number, the larger of two that are as near
abbrev pub round_div : ℕ → ℕ → ℕ
round_div a c = (2 * a + c) / (2 * c)

-- what such rules for fractions share
pub record Rule (g : ℕ → ℕ → ℕ) : Type 0 where
  pub same : (a b c d : ℕ) → 0 < b → 0 < d → a * d ≡ c * b → g a b ≡ g c d
  pub whole : (n : ℕ) → g n 1 ≡ n
  pub bound : (a c : ℕ) → 0 < c → g a c ≤ a
  pub far : (a u v : ℕ) → a * 2 < u → u ≤ v → g a u ≡ g a v

-- a rule that cuts a fraction down, of a denominator 2 ^ r, after something was added above
pub record Adds (g : ℕ → ℕ → ℕ) (added : ℕ → ℕ → Type 0) : Type 0 where
  pub rule : Rule g
  pub cut : (a r y : ℕ) → r < 64 → added (2 ^ r) y → (a + y) / 2 ^ r ≡ g a (2 ^ r)

-- A float as a `u64` by such a rule, as Rust's `as` takes the whole float: 0 for a NaN and for what is below zero, and the greatest `u64` for what is larger.
unfoldable pub whole_by : (ℕ → ℕ → ℕ) → Float → ℕ
whole_by g nan = 0
whole_by g (inf s) = cond s 0 (2 ^ 64 - 1)
whole_by g (fin s m e) = cond s 0 (min (g (m * up e) (down e)) (2 ^ 64 - 1))
