-- What `narrow` gives. Definitions only.
use Rattle.std.specs.Prelude.{◌≡◌, ℕ, ◌+◌, ◌-◌, ◌*◌, ◌/◌, ◌%◌, ◌^◌, min, Bool, cond, ◌&&◌, nat_le, nat_lt, to_bits, Float}
use Rattle.std.specs.Float.{nan, inf, fin, binary32}
use Rattle.std.specs.Float.Ieee.{up, down, round}
use Rattle.std.specs.Float.Ieee.Nearest.{closest}
use Rattle.ieee.specs.declared.Single.{Single}
use Rattle.ieee.specs.declared.Singles.{Singles}
use Rattle.ieee.specs.Normal.{exponent_in, significand_in, shift_of}

-- IEEE 754's convertFormat to binary32, rounding to nearest, ties to even.
unfoldable pub narrowed : Float → Float
narrowed nan = nan
narrowed (inf s) = inf s
narrowed (fin s m e) = round binary32 s (m * up e) (down e)

-- The pattern of an f32 made of an f64's significand m at the place y, c places up: of its digits some are dropped, and the exponent's field is above 1 by the
-- places from 887 + c on.
-- A carry goes into the field by itself, and no pattern passes the infinity's.
abbrev pub pattern_of : ℕ → ℕ → ℕ → ℕ
pattern_of m y c = min ((y - (887 + c)) * 2 ^ 23 + closest (m * 2 ^ c) (2 ^ min (38 + (887 + c - y)) 63)) (255 * 2 ^ 23)

abbrev pub magnitude_of : ℕ → ℕ
magnitude_of b = pattern_of (significand_in b) (exponent_in b - 1) (shift_of (significand_in b))

-- with the sign of the bits b
abbrev pub pattern_in : ℕ → ℕ
pattern_in b = cond (nat_le (2 ^ 63) b) (2 ^ 31) 0 + magnitude_of b

-- What `rounded` makes of x.
pub record Rounded (x : Float) (r : Single) : Type 0 where
  pub value : r.value ≡ narrowed x
  pub bits : r.bits ≡ to_bits binary32 (narrowed x)

pub record RoundedBoth (x y : Float) (r : Singles) : Type 0 where
  pub first : Rounded x r.first
  pub second : Rounded y r.second

-- Whether the f64 of the bits b has an f32 of all digits, and far from the largest: by its exponent's field, from 897 to 1149.
abbrev pub normal_in : ℕ → Bool
normal_in b = nat_le (897 * 2 ^ 52) (b % 2 ^ 63) && nat_lt (b % 2 ^ 63) (1150 * 2 ^ 52)

-- An f64's bits without their last 29, rounded to the nearest, a tie to the even one: its f32's digits, for the f64s whose f32 has as many.
abbrev pub cut_of : ℕ → ℕ
cut_of b = (b + 0x0fff_ffff + b / 2 ^ 29 % 2) / 2 ^ 29
