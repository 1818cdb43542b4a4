-- `impulse::runs::mend` meets its contract: after t turns the first t samples of the run are mended. Assumes nothing.
use mathlib.Core.Path.{◌≡◌}
use Rattle.rules.specs.Impulse.{lookahead_size}
use Rattle.impulse.specs.Machine.{write_run}
use Rattle.impulse.proofs.runs.mend.Given as goal

abbrev pub invariant-loop-t : goal.invariant-loop-t
invariant-loop-t l = l.pending ≡ write_run lookahead_size l.initial.pending l.left l.right l.start l.n l.t
