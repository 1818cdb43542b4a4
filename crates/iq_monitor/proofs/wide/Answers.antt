-- `iq_monitor::wide` widens what is no NaN as it stands. Assumes nothing.
use mathlib.Core.Path.{refl, sym, subst}
use mathlib.Core.Bool.{Bool, not, ◌&&◌}
use Prim.Native.Nat.{ℕ, ◌/◌, ◌%◌, ◌^◌}
use lib.Dec.{T}
use lib.Ieee.{binary32, binary64, of_bits, is_nan, nan_bits, fits}
use lib.Ieee.Bits.{nan_bits_is, of_bits-fits}
use lib.Ieee.Fits.{and_i, fits_widens}
use Rattle.complex.specs.Complex.{sample_of}
use Rattle.iq_monitor.proofs.wide.Goals as goal

-- its pattern is no NaN's, and it is a value of the wider format
no_nan : (n : ℕ) → T (not (is_nan (of_bits binary32 n))) → T (not (nan_bits binary32 n))
no_nan n h = subst (λ (b : Bool). T (not b)) (sym (nan_bits_is binary32 n)) h

fine : (n : ℕ) → T (not (is_nan (of_bits binary32 n))) → T (fits binary64 (of_bits binary32 n) && not (is_nan (of_bits binary32 n)))
fine n h = and_i (fits binary64 (of_bits binary32 n)) (not (is_nan (of_bits binary32 n))) (fits_widens (of_bits binary32 n) (of_bits-fits binary32 n)) h

pub float_from_bits-result : goal.float_from_bits-result
unfolding sample_of
float_from_bits-result c = no_nan (c.args.w % 2 ^ 32) c.requires.re

pub float_to_float-result : goal.float_to_float-result
unfolding sample_of
float_to_float-result c = fine (c.args.w % 2 ^ 32) c.requires.re

pub float_from_bits-result-2 : goal.float_from_bits-result-2
unfolding sample_of
float_from_bits-result-2 c = no_nan (c.args.w / 2 ^ 32) c.requires.im

pub float_to_float-result-2 : goal.float_to_float-result-2
unfolding sample_of
float_to_float-result-2 c = fine (c.args.w / 2 ^ 32) c.requires.im

pub returns : goal.returns
unfolding sample_of
returns c = refl
