-- `amplitude_limit::raised` tells by two bits whether a sample is `under` the limit. Assumes nothing.
use native.Mathlib.Omega.{arith}
use lib.Bits.{and_le_r}
use Rattle.amplitude_limit.proofs.Halves.{bits_tell}
use Rattle.amplitude_limit.proofs.raised.Goals as goal

pub overflow_add-result : goal.overflow_add-result
overflow_add-result c = omega (arith, and_le_r c.args.w 0x7fff_ffff_7fff_ffff)

pub returns : goal.returns
returns c = bits_tell c.args.w c.args.limit c.requires
