-- `impulse_window::ascends` meets its contract: the powers passed ascend. Assumes nothing.
use mathlib.Core.Path.{◌≡◌}
use Prim.Native.Nat.{suc}
use lib.Ieee.{le}
use lib.ListN.{take}
use Rattle.rules.specs.Constants.{zero_f}
use Rattle.rules.specs.Lists.{All}
use Rattle.impulse_window.specs.Rising.{climbs, Held}
use Rattle.impulse_window.proofs.ascends.Given as goal

abbrev pub invariant-loop-k : goal.invariant-loop-k
invariant-loop-k l =
    (l.rising ≡ climbs le zero_f (take (suc l.k) l.sorted)) × All Held (take (suc l.k) l.sorted)
