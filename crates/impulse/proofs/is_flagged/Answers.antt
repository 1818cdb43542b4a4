-- `impulse::is_flagged` meets its contract. Assumes nothing.
use Rattle.impulse.specs.Machine.{flagged_by}
use Rattle.impulse.proofs.is_flagged.Goals as goal

pub returns : goal.returns
unfolding flagged_by
returns c = simp (c.is_flagged.ensures, c.kept.ensures)
