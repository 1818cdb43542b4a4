-- `impulse::released` meets its contract. Assumes nothing.
use borrow.Author.Tests.{lt-ltb, le-ltb}
use Rattle.impulse.specs.Machine.{released}
use Rattle.impulse.proofs.released.Goals as goal

pub returns-then-not-apply : goal.returns-then-not-apply
unfolding released
returns-then-not-apply c = simp c.if-not-apply.true

pub returns-then-i : goal.returns-then-i
unfolding released
returns-then-i c = simp (c.if-not-apply.false, lt-ltb _ _ c.if-i.true)

pub returns : goal.returns
unfolding released
returns c = simp (c.if-not-apply.false, le-ltb _ _ c.if-i.false)
