-- `ieee::from_bits64` meets its contract: its test is the logic's test for a NaN's pattern. Assumes nothing.
use Rattle.std.proofs.Common.{◌*◌, ◌%◌, ◌^◌, ◌<◌, ◌≤◌, ◌∙◌, arith, le-ltb, lt-ltb}
use lib.Ieee.{binary64}
use Rattle.ieee.proofs.laws.Nan.{zero_by_zero, nan_of_bits, no_nan_bits}
use Rattle.ieee.proofs.from_bits64.Goals as goal

pub float_from_bits-result : goal.float_from_bits-result
float_from_bits-result c =
    let h : c.args.n % 2 ^ 63 ≤ 2047 * 2 ^ 52 = omega arith in
    no_nan_bits binary64 _ (le-ltb _ _ h)

pub returns-then-n-gt9218868437227405312 : goal.returns-then-n-gt9218868437227405312
returns-then-n-gt9218868437227405312 c =
    let h : 2047 * 2 ^ 52 < c.args.n % 2 ^ 63 = omega arith in
    zero_by_zero binary64 ∙ nan_of_bits binary64 _ (lt-ltb _ _ h)
