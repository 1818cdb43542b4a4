-- `impulse_window::rank` meets its contract: the powers passed are all below p. Assumes nothing.
use mathlib.Core.Path.{◌≡◌}
use lib.Ieee.{lt}
use lib.ListN.{take}
use Rattle.impulse_window.specs.Ordering.{rank, without}
use Rattle.impulse_window.proofs.rank.Given as goal

abbrev pub invariant-loop-k : goal.invariant-loop-k
invariant-loop-k l = rank lt l.p (take l.k (without l.sorted l.gap)) ≡ l.k
