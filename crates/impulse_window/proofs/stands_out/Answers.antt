-- `impulse_window::stands_out` meets its contract. Assumes nothing.
use Rattle.rules.specs.Impulse.{stands_out}
use Rattle.impulse_window.proofs.stands_out.Goals as goal

pub returns-then-r : goal.returns-then-r
unfolding stands_out
returns-then-r c = simp (c.if-r.true, c.widen.ensures)

pub returns-else-r : goal.returns-else-r
unfolding stands_out
returns-else-r c = simp c.if-r.false
