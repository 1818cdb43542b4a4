-- `dc::DcBlocker::push` is `pushed`. Assumes nothing.
use Rattle.dc.proofs.laws.Steps.{pushed_by}
use Rattle.std.proofs.Common.{rules}
use Rattle.dc.proofs.DcBlocker.push.Goals as goal

pub returns : goal.returns
returns c = search (rules, pushed_by)
