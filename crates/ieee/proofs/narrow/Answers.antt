-- `ieee::narrow` meets its contract: it is the float of the bits that `rounded` gives. Assumes nothing.
use Rattle.std.proofs.Common.{ap, ◌∙◌}
use lib.Ieee.{binary32, of_bits}
use lib.Ieee.Bits.{of_bits-to_bits}
use Rattle.ieee.proofs.laws.NarrowLaws.{narrowed_fits}
use Rattle.ieee.proofs.narrow.Goals as goal

pub returns : goal.returns
returns c = c.from_bits32.ensures ∙ ap (of_bits binary32) c.rounded-r.ensures.bits ∙ of_bits-to_bits binary32 _ (narrowed_fits _)
