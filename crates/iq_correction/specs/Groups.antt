-- What lets a group of samples be corrected with no branch between them. Definitions only.
use Rattle.std.specs.Prelude.{◌≡◌, ℕ, ◌+◌, ◌*◌, ◌/◌, ◌%◌, ◌^◌, ◌<◌, ◌≤◌, List, ◌++◌, map, length, take, drop}
use Rattle.ieee.specs.Bound.{Within}
use Rattle.ieee.specs.Narrow.{cut_of}
use Rattle.complex.specs.Complex.{Complex}

-- both parts within 2
pub record Small (r : Complex) : Type 0 where
  pub re : Within r.re 2 1
  pub im : Within r.im 2 1

-- neither half has the exponent's field of an infinity or a NaN
pub record FiniteWord (w : ℕ) : Type 0 where
  pub re : w % 2 ^ 31 < 255 * 2 ^ 23
  pub im : w / 2 ^ 32 % 2 ^ 31 < 255 * 2 ^ 23

-- the bits b of an f64 rounded to the digits of an f32, with 960 taken from the exponent
abbrev pub rebased : ℕ → ℕ
rebased b = (b + (0xc400_0000_0fff_ffff + b / 2 ^ 29 % 2)) % 2 ^ 64

-- the four bits behind the first
abbrev pub Clear : ℕ → Type 0
Clear r = r % 2 ^ 63 < 2 ^ 59

-- the f32's bits by both, but for 64 in the exponent
abbrev pub part_bits : ℕ → ℕ → ℕ
part_bits b r = r / 2 ^ 29 % 2 ^ 30 + b / 2 ^ 63 * 2 ^ 31

-- the bits of an f32 by the bits of its f64 without the last 29: the low 30, and the two highest in front
abbrev pub pattern_cut : ℕ → ℕ
pattern_cut b = cut_of b % 2 ^ 30 + cut_of b / 2 ^ 33 * 2 ^ 30

-- the slice xs at place k: what stands before k is written, and what is left gives the rest
pub record Mapping (f : ℕ → ℕ) (xs₀ xs : List ℕ) (k : ℕ) : Type 0 where
  pub same : length xs ≡ length xs₀
  pub place : k ≤ length xs₀
  pub written : take k xs ++ map f (drop k xs) ≡ map f xs₀
