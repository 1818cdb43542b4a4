-- `impulse::runs::repair` meets its contract. Assumes nothing.
use Rattle.impulse.specs.View.{repair_of}
use Rattle.impulse.proofs.runs.repair.Goals as goal

pub returns : goal.returns
unfolding repair_of
returns c = simp (c.original-4.ensures, c.original-3.ensures, c.original-2.ensures, c.original.ensures)
