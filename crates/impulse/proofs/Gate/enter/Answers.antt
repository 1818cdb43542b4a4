-- `impulse::Gate::enter` meets its contract. Assumes nothing.
use borrow.Author.Tests.{eq-eqb, ne_eqb}
use Rattle.impulse.specs.Machine.{entered}
use Rattle.impulse.proofs.Gate.enter.Goals as goal

pub returns-then-number-self : goal.returns-then-number-self
unfolding entered
returns-then-number-self c = simp (eq-eqb _ _ c.if-number-self.true)

pub returns : goal.returns
unfolding entered
returns c = simp (ne_eqb _ _ c.if-number-self.false, c.pauses-paused.ensures)
