-- `impulse_window::sum` meets its contract: after k turns it is the sum of the first k powers. Assumes nothing.
use mathlib.Core.Path.{◌≡◌}
use mathlib.Core.List.{foldl}
use lib.Ieee.{binary64, add}
use lib.ListN.{take}
use Rattle.rules.specs.Constants.{zero_f}
use Rattle.impulse_window.proofs.sum.Given as goal

abbrev pub invariant-loop-p : goal.invariant-loop-p
invariant-loop-p l = l.s ≡ foldl (add binary64) zero_f (take l.p-index l.powers)
