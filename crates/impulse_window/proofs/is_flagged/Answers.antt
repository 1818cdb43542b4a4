-- `impulse_window::is_flagged` meets its contract. Assumes nothing.
use mathlib.Core.Path.{sym}
use Rattle.impulse_window.proofs.is_flagged.Goals as goal

pub returns-then-is_quiet : goal.returns-then-is_quiet
returns-then-is_quiet c = sym (c.is_quiet.ensures c.if-is_quiet.true)

pub returns : goal.returns
returns c = simp (c.stands_out.ensures, c.reference-r.ensures)
