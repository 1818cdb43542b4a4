-- Floats whose order is that of numbers: no NaN, and no sign bit. Definitions only.
use Rattle.std.specs.Prelude.{ℕ, suc, ◌*◌, ◌/◌, ◌^◌, Bool, false, not, T, Float}
use Rattle.std.specs.Float.{nan, inf, fin, Format}
use Rattle.std.specs.Float.Ieee.{emax, low, up, down, fits}

-- neither a NaN nor of a set sign bit
abbrev pub sign_clear : Float → Bool
sign_clear nan = false
sign_clear (inf s) = not s
sign_clear (fin s m e) = not s

-- and a value of the format
abbrev pub Plain : Format → Float → Type 0
Plain f x = T (sign_clear x) × T (fits f x)

-- the size in units of the format's smallest value
abbrev pub key : Format → Float → ℕ
key f nan = 0
key f (inf s) = 2 ^ suc (emax f) * 2 ^ low f
key f (fin s m e) = m * up e * 2 ^ low f / down e
