-- Complex numbers of floats, each operation by document 01's formula, in its order: every sum, product and quotient of parts rounds to the format. Definitions
-- only.
use Rattle.std.specs.Prelude.{ℕ, ◌+◌, ◌*◌, ◌/◌, ◌%◌, ◌^◌, not, T, Float}
use Rattle.std.specs.Float.Ieee.{is_nan, add, sub, mul, div, neg, of_bits, to_bits}
use Rattle.std.specs.Float.{Format, binary32, binary64}
use Rattle.ieee.specs.Bound.{Within}
use Rattle.ieee.specs.Narrow.{narrowed}
use Rattle.ieee.specs.Root.{rooted}

pub record Complex : Type 0 where
  pub re : Float
  pub im : Float

-- neither part is a NaN
pub record NoNan (z : Complex) : Type 0 where
  pub re : T (not (is_nan z.re))
  pub im : T (not (is_nan z.im))

-- 0.0 and 1.0
abbrev pub zero_in : Format → Float
zero_in f = of_bits f 0

abbrev pub one_in : Format → Float
one_in binary32 = of_bits binary32 0x3f80_0000
one_in binary64 = of_bits binary64 0x3ff0_0000_0000_0000

unfoldable pub sum : Format → Complex → Complex → Complex
sum f a b = record { re = add f a.re b.re; im = add f a.im b.im }

unfoldable pub difference : Format → Complex → Complex → Complex
difference f a b = record { re = sub f a.re b.re; im = sub f a.im b.im }

-- 'complex product: re = a.re·b.re − a.im·b.im, im = a.re·b.im + a.im·b.re'
unfoldable pub product : Format → Complex → Complex → Complex
product f a b =
    record {
      re = sub f (mul f a.re b.re) (mul f a.im b.im);
      im = add f (mul f a.re b.im) (mul f a.im b.re);
    }

-- 'power: re·re + im·im'
unfoldable pub power : Format → Complex → Float
power f a = add f (mul f a.re a.re) (mul f a.im a.im)

-- 'quotient: re = (a.re·b.re + a.im·b.im)/power(b), im = (a.im·b.re − a.re·b.im)/power(b)'
unfoldable pub quotient : Format → Complex → Complex → Complex
quotient f a b =
    record {
      re = div f (add f (mul f a.re b.re) (mul f a.im b.im)) (power f b);
      im = div f (sub f (mul f a.im b.re) (mul f a.re b.im)) (power f b);
    }

-- '1 − w = (1 − re, 0 − im)'
unfoldable pub one_minus : Format → Complex → Complex
one_minus f w = record { re = sub f (one_in f) w.re; im = sub f (zero_in f) w.im }

-- '1 + w = (1 + re, im)'
unfoldable pub one_plus : Format → Complex → Complex
one_plus f w = record { re = add f (one_in f) w.re; im = w.im }

unfoldable pub conjugate : Complex → Complex
conjugate a = record { re = a.re; im = neg a.im }

-- times a real, and over a real: part by part
unfoldable pub scaled : Format → Complex → Float → Complex
scaled f a r = record { re = mul f a.re r; im = mul f a.im r }

unfoldable pub unscaled : Format → Complex → Float → Complex
unscaled f a r = record { re = div f a.re r; im = div f a.im r }

-- '`norm`: the f64 nearest the exact root of the rounded f64 power'
unfoldable pub norm : Complex → Float
norm a = rooted (power binary64 a)

-- both parts rounded to f32
unfoldable pub narrowed_parts : Complex → Complex
narrowed_parts a = record { re = narrowed a.re; im = narrowed a.im }

-- ---- a sample as a word: 'bits of re in the low half, im in the high'
unfoldable pub word_of : Complex → ℕ
word_of a = to_bits binary32 a.re + to_bits binary32 a.im * 2 ^ 32

unfoldable pub sample_of : ℕ → Complex
sample_of w = record { re = of_bits binary32 (w % 2 ^ 32); im = of_bits binary32 (w / 2 ^ 32) }

-- both parts are at most b in size, and so are those of a word
abbrev pub PartsWithin : ℕ → Complex → Type 0
PartsWithin b z = Within z.re b 1 × Within z.im b 1

abbrev pub WordWithin : ℕ → ℕ → Type 0
WordWithin b w = PartsWithin b (sample_of w)
