-- `dc::DcBlocker::advance` is `moved_by`. Assumes nothing.
use Rattle.dc.proofs.laws.Steps.{rested_by, stepped_by}
use Rattle.std.proofs.Common.{rules}
use Rattle.dc.proofs.DcBlocker.advance.Goals as goal

pub returns-then-not-rests-clause-after : goal.returns-then-not-rests-clause-after
returns-then-not-rests-clause-after c = search (rules, stepped_by)

pub returns-else-not-rests-clause-after : goal.returns-else-not-rests-clause-after
returns-else-not-rests-clause-after c = search (rules, rested_by)
