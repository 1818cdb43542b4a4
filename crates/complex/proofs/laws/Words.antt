-- A sample and its word: each gives back the other, a NaN's word aside. Assumes nothing.
use Rattle.std.specs.Prelude.{◌≡◌, ℕ, ◌+◌, ◌*◌, ◌/◌, ◌%◌, ◌^◌, ◌<◌, T}
use Rattle.std.proofs.Common.{ap, ◌∙◌, arith}
use Rattle.std.specs.Float.{binary32}
use Rattle.std.specs.Float.Ieee.{to_bits, of_bits, fits}
use Rattle.std.specs.Float.Ieee.Bits.{of_bits-to_bits, of_bits-fits, to_bits-lt}
use Rattle.complex.specs.Complex.{Complex, word_of, sample_of}

-- both parts are values of binary32, as an f32's are
pub record Parts32 (z : Complex) : Type 0 where
  pub re : T (fits binary32 z.re)
  pub im : T (fits binary32 z.im)

pub sample_parts : (w : ℕ) → Parts32 (sample_of w)
unfolding sample_of
sample_parts w = record { re = of_bits-fits binary32 (w % 2 ^ 32); im = of_bits-fits binary32 (w / 2 ^ 32) }

pub word_lt : (z : Complex) → Parts32 z → word_of z < 2 ^ 64
unfolding word_of
word_lt z p =
    let a = to_bits-lt binary32 z.re p.re in
    let b = to_bits-lt binary32 z.im p.im in
    omega arith

pub sample_of_word : (z : Complex) → Parts32 z → sample_of (word_of z) ≡ z
unfolding word_of sample_of
sample_of_word z p =
    let a = to_bits-lt binary32 z.re p.re in
    let low : (to_bits binary32 z.re + to_bits binary32 z.im * 2 ^ 32) % 2 ^ 32 ≡ to_bits binary32 z.re = omega arith in
    let high : (to_bits binary32 z.re + to_bits binary32 z.im * 2 ^ 32) / 2 ^ 32 ≡ to_bits binary32 z.im = omega arith in
    let x : of_bits binary32 ((to_bits binary32 z.re + to_bits binary32 z.im * 2 ^ 32) % 2 ^ 32) ≡ z.re = ap (of_bits binary32) low
    ∙ of_bits-to_bits binary32 z.re p.re in
    let y : of_bits binary32 ((to_bits binary32 z.re + to_bits binary32 z.im * 2 ^ 32) / 2 ^ 32) ≡ z.im = ap (of_bits binary32) high
    ∙ of_bits-to_bits binary32 z.im p.im in
    λ i. record { re = x i; im = y i }
