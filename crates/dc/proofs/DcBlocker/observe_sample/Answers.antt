-- `dc::DcBlocker::observe_sample` moves the level as `process_sample` does. Assumes nothing.
use Rattle.dc.proofs.laws.Steps.{processed_by, observed_by}
use Rattle.std.proofs.Common.{rules}
use Rattle.dc.proofs.DcBlocker.observe_sample.Goals as goal

pub returns-clause-after : goal.returns-clause-after
returns-clause-after c = search (rules, processed_by)

pub returns-clause-clamped : goal.returns-clause-clamped
returns-clause-clamped c = search (rules, observed_by)
