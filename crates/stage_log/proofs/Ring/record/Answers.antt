-- `stage_log::Ring::record` meets its contract. Assumes nothing.
use Rattle.rules.specs.Log.{repair_words}
use Rattle.stage_log.proofs.Ring.record.Goals as goal

pub returns : goal.returns
unfolding repair_words
returns c = c.enter.ensures
