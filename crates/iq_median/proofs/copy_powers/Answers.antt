-- `iq_median::copy_powers`: what stands before place k is copied. Assumes nothing.
use Rattle.std.proofs.Common.{arith, rules}
use Rattle.std.proofs.lemmas.List.{ext_get_or}
use lib.Ieee.{nan}
use Rattle.iq_median.proofs.copy_powers.Goals as goal

pub returns : goal.returns
returns c = ext_get_or nan _ _ (search rules) (λ j h. c.loop-k.invariant j (omega arith))
