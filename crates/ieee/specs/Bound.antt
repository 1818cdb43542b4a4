-- Bounds on floats. Definitions only.
use Rattle.std.specs.Prelude.{◌≡◌, ℕ, suc, ◌+◌, ◌-◌, ◌*◌, ◌^◌, ◌<◌, ◌≤◌, Bool, cond, Float}
use Rattle.std.specs.Bool.{beq}
use Rattle.std.specs.Float.{nan, inf, fin, Format}
use Rattle.std.specs.Float.Ieee.{prec, emax, low, up, down}

-- x is finite, and at most a / c in size, for a c above 0
abbrev pub Within : Float → ℕ → ℕ → Type 0
Within nan a c = ⊥
Within (inf s) a c = ⊥
Within (fin s m e) a c = m * up e * c ≤ a * down e

-- x is finite, and at least a / c in size
abbrev pub Beyond : Float → ℕ → ℕ → Type 0
Beyond nan a c = ⊥
Beyond (inf s) a c = ⊥
Beyond (fin s m e) a c = a * down e ≤ m * up e * c

-- how far ±a and ±b are apart, each with its sign
abbrev pub distance : Bool → ℕ → Bool → ℕ → ℕ
distance s a t b = cond (beq s t) (a - b + (b - a)) (a + b)

-- x and y are finite, and differ by a / c at most, for a c above 0: both scaled to whole numbers
abbrev pub Near : Float → Float → ℕ → ℕ → Type 0
Near nan y a c = ⊥
Near (inf s) y a c = ⊥
Near (fin s m e) nan a c = ⊥
Near (fin s m e) (inf t) a c = ⊥
Near (fin s m e) (fin t n d) a c = distance s (m * up e * down d) t (n * up d * down e) * c ≤ a * (down e * down d)

-- a / c is a value of the format f: q * 2 ^ j of its smallest values, with no more digits than it holds, and below the infinity
pub record Value (f : Format) (a c : ℕ) : Type 0 where
  pub q : ℕ
  pub j : ℕ
  pub digits : q < 2 ^ prec f
  pub under : q * 2 ^ j < 2 ^ (low f + suc (emax f))
  pub is : a * 2 ^ low f ≡ q * 2 ^ j * c
