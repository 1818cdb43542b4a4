-- `dc::DcBlocker::process_sample`: a sample less the level, and the level moved by that. Assumes nothing.
use Rattle.dc.proofs.laws.Steps.{processed_by, taken_by}
use Rattle.std.proofs.Common.{rules}
use Rattle.dc.proofs.DcBlocker.process_sample.Goals as goal

pub returns-clause-after : goal.returns-clause-after
returns-clause-after c = search (rules, processed_by)

pub returns-clause-answer : goal.returns-clause-answer
returns-clause-answer c = search (rules, taken_by)
