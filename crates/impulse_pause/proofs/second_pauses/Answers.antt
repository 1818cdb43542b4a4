-- `impulse_pause::second_pauses` meets its contract. Assumes nothing.
use Rattle.impulse_pause.proofs.second_pauses.Goals as goal

pub returns-then-was : goal.returns-then-was
returns-then-was c = simp (c.if-was.true, c.within_exit.ensures)

pub returns : goal.returns
returns c = simp (c.if-was.false, c.above_entry.ensures)
