-- `impulse_arrays::strictly_ascends` meets its contract: the powers passed ascend strictly. Assumes nothing.
use mathlib.Core.Path.{◌≡◌}
use Prim.Native.Nat.{suc}
use lib.Ieee.{lt}
use lib.ListN.{take}
use Rattle.rules.specs.Constants.{zero_f}
use Rattle.rules.specs.Lists.{All}
use Rattle.impulse_window.specs.Rising.{climbs, Held}
use Rattle.impulse_arrays.proofs.strictly_ascends.Given as goal

abbrev pub invariant-loop-k : goal.invariant-loop-k
invariant-loop-k l =
    (l.rising ≡ climbs lt zero_f (take (suc l.k) l.sorted)) × All Held (take (suc l.k) l.sorted)
