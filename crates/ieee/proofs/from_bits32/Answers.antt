-- `ieee::from_bits32` meets its contract: its test is the logic's test for a NaN's pattern. Assumes nothing.
use Rattle.std.proofs.Common.{◌*◌, ◌%◌, ◌^◌, ◌<◌, ◌≤◌, ◌∙◌, arith, le-ltb, lt-ltb}
use lib.Ieee.{binary32}
use Rattle.ieee.proofs.laws.Nan.{zero_by_zero, nan_of_bits, no_nan_bits}
use Rattle.ieee.proofs.from_bits32.Goals as goal

pub float_from_bits-result : goal.float_from_bits-result
float_from_bits-result c =
    let h : c.args.n % 2 ^ 31 ≤ 255 * 2 ^ 23 = omega arith in
    no_nan_bits binary32 _ (le-ltb _ _ h)

pub returns-then-n-gt2139095040 : goal.returns-then-n-gt2139095040
returns-then-n-gt2139095040 c =
    let h : 255 * 2 ^ 23 < c.args.n % 2 ^ 31 = omega arith in
    zero_by_zero binary32 ∙ nan_of_bits binary32 _ (lt-ltb _ _ h)
