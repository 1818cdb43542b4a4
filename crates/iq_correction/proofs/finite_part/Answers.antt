-- `iq_correction::finite_part` is the value of its bits. Assumes nothing.
use Rattle.std.proofs.Common.{◌*◌, ◌%◌, ◌^◌, le_of_lt, le-ltb}
use lib.Ieee.{binary32, binary64}
use lib.Ieee.Bits.{of_bits-fits}
use lib.Ieee.Fits.{fits_widens}
use Rattle.ieee.proofs.laws.Nan.{no_nan_bits, castable}
use Rattle.iq_correction.proofs.laws.GroupLaws.{part_number}
use Rattle.iq_correction.proofs.finite_part.Goals as goal

pub float_from_bits-result : goal.float_from_bits-result
float_from_bits-result c = no_nan_bits binary32 c.args.n (le-ltb (255 * 2 ^ 23) (c.args.n % 2 ^ 31) (le_of_lt c.requires))

pub float_to_float-result : goal.float_to_float-result
float_to_float-result c = castable binary64 _ (fits_widens _ (of_bits-fits binary32 c.args.n)) (part_number c.args.n c.requires)
