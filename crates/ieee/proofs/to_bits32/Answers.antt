-- `ieee::to_bits32` meets its contract: the number written at a NaN is the pattern that the logic gives it. Assumes nothing.
use lib.Ieee.{binary32}
use Rattle.ieee.proofs.laws.Nan.{no_nan, bits_of_nan}
use Rattle.ieee.proofs.to_bits32.Goals as goal

pub float_to_bits-result : goal.float_to_bits-result
float_to_bits-result c = no_nan _ c.if-x.false

pub returns-then-x : goal.returns-then-x
returns-then-x c = bits_of_nan binary32 _ c.if-x.true
