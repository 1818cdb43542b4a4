-- `stage_log::Notes::fresh` meets its contract. Assumes nothing.
use Rattle.stage_log.proofs.Notes.fresh.Goals as goal

pub returns : goal.returns
returns c = rw (c.fresh.ensures, c.fresh-2.ensures)
