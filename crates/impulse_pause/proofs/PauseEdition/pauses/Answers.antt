-- `impulse_pause::PauseEdition::pauses` meets its contract. Assumes nothing.
use Rattle.impulse_pause.proofs.PauseEdition.pauses.Goals as goal

pub returns-in-First : goal.returns-in-First
returns-in-First c = simp (c.above_entry.ensures, c.in-First.is)

pub returns-in-Second : goal.returns-in-Second
returns-in-Second c = simp (c.second_pauses.ensures, c.in-Second.is)
