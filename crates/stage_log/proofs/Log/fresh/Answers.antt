-- `stage_log::Log::fresh` meets its contract. Assumes nothing.
use Rattle.stage_log.specs.View.{fresh_log}
use Rattle.stage_log.proofs.Log.fresh.Goals as goal

pub returns : goal.returns
unfolding fresh_log
returns c = rw c.fresh.ensures
