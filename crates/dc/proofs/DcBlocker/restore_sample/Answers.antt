-- `dc::DcBlocker::restore_sample`: a sample and the level, which the sample moves. Assumes nothing.
use Rattle.dc.proofs.laws.Steps.{restored_by, restored_word_by}
use Rattle.std.proofs.Common.{rules}
use Rattle.dc.proofs.DcBlocker.restore_sample.Goals as goal

pub returns-clause-after : goal.returns-clause-after
returns-clause-after c = search (rules, restored_by)

pub returns-clause-word : goal.returns-clause-word
returns-clause-word c = search (rules, restored_word_by)
