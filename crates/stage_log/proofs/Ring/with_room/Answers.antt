-- `stage_log::Ring::with_room` meets its contract. Assumes nothing.
use borrow.Author.Tests.{lt-ltb, le-ltb}
use Rattle.rules.specs.Log.{roomed}
use Rattle.stage_log.proofs.Ring.with_room.Goals as goal

pub returns-then-self-capacity : goal.returns-then-self-capacity
unfolding roomed
returns-then-self-capacity c = λ ws. rw (lt-ltb _ _ c.if-self-capacity.true)

pub returns : goal.returns
unfolding roomed
returns c = λ ws. rw (le-ltb _ _ c.if-self-capacity.false)
