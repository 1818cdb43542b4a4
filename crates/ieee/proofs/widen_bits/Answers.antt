-- `ieee::widen_bits` meets its contract: its test is the logic's test for a NaN's pattern. Assumes nothing.
use Rattle.std.proofs.Common.{◌*◌, ◌%◌, ◌^◌, ◌<◌, ◌≤◌, Bool, not, T, ◌∙◌, subst, arith, le-ltb, lt-ltb}
use lib.Ieee.{binary32, binary64, nan_bits}
use lib.Ieee.Bits.{nan_bits_is, of_bits-fits}
use lib.Ieee.Fits.{fits_widens}
use Rattle.ieee.proofs.laws.Nan.{zero_by_zero, nan_of_bits, no_nan_bits, castable}
use Rattle.ieee.proofs.widen_bits.Goals as goal

pub returns-then-n-gt2139095040 : goal.returns-then-n-gt2139095040
returns-then-n-gt2139095040 c =
    let h : 255 * 2 ^ 23 < c.args.n % 2 ^ 31 = omega arith in
    zero_by_zero binary64 ∙ nan_of_bits binary32 _ (lt-ltb _ _ h)

number : (c : goal.Else-n-gt2139095040) → T (not (nan_bits binary32 c.args.n))
number c =
    let h : c.args.n % 2 ^ 31 ≤ 255 * 2 ^ 23 = omega arith in
    no_nan_bits binary32 _ (le-ltb _ _ h)

pub float_from_bits-result : goal.float_from_bits-result
float_from_bits-result c = number c

pub float_to_float-result : goal.float_to_float-result
float_to_float-result c =
    castable binary64 _ (fits_widens _ (of_bits-fits binary32 c.args.n))
    (subst (λ (t : Bool). T (not t)) (nan_bits_is binary32 c.args.n) (number c.before))
