-- `iq_correction::divisor` is `divisor_of`. Assumes nothing.
use Rattle.std.proofs.Common.{ap}
use lib.Ieee.{binary64, sub}
use Rattle.rules.specs.Constants.{one}
use Rattle.iq_correction.proofs.divisor.Goals as goal

pub returns : goal.returns
returns c = ap (sub binary64 one) c.norm_sqr.ensures
