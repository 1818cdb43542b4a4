-- `dc::DcBlocker::fresh` has the first level. Assumes nothing.
use Rattle.std.proofs.Common.{refl}
use Rattle.rules.specs.Dc.{corner}
use Rattle.dc.proofs.DcBlocker.fresh.Goals as goal

pub returns : goal.returns
unfolding corner
returns c = refl
