-- `dc::DcBlocker::step` is `moved_by`, by either way. Assumes nothing.
use Rattle.dc.proofs.laws.Steps.{plainly, unheld}
use Rattle.std.proofs.Common.{rules}
use Rattle.dc.proofs.DcBlocker.step.Goals as goal

pub returns-then-is_plain-clause-after : goal.returns-then-is_plain-clause-after
returns-then-is_plain-clause-after c = search (rules, plainly)

pub returns-then-is_plain-clause-clamped : goal.returns-then-is_plain-clause-clamped
returns-then-is_plain-clause-clamped c = search (rules, unheld)
