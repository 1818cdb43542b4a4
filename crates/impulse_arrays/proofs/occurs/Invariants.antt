-- `impulse_arrays::occurs` meets its contract: whether it is one of the powers passed. Assumes nothing.
use mathlib.Core.Path.{◌≡◌}
use lib.ListN.{take}
use Rattle.rules.specs.Lists.{All}
use Rattle.impulse_window.specs.Rising.{Held}
use Rattle.impulse_arrays.specs.Occurs.{occurs}
use Rattle.impulse_arrays.proofs.occurs.Given as goal

abbrev pub invariant-loop-y : goal.invariant-loop-y
invariant-loop-y l =
    (l.found ≡ occurs l.x (take l.y-index l.window)) × All Held (take l.y-index l.window)
