-- `impulse_arrays::all_occur` meets its contract: the answer so far is that of the powers before k. Assumes nothing.
use mathlib.Core.Path.{◌≡◌}
use mathlib.Core.Bool.{Bool}
use mathlib.Core.List.{List}
use Prim.Native.Nat.{ℕ, ◌<◌}
use lib.ListN.{get_or}
use lib.Ieee.{Float}
use Rattle.rules.specs.Constants.{zero_f}
use Rattle.rules.specs.Lists.{All}
use Rattle.stage_log.specs.Check.{all_to}
use Rattle.impulse_window.specs.Rising.{Held}
use Rattle.impulse_arrays.specs.Occurs.{occurs}
use Rattle.impulse_arrays.proofs.all_occur.Given as goal

abbrev pub test : List Float → List Float → ℕ → Bool
test w s k = occurs (get_or s k zero_f) w

abbrev pub invariant-loop-x : goal.invariant-loop-x
invariant-loop-x l =
    (l.all ≡ all_to (test l.window l.sorted) l.x-index) × (0 < l.x-index → All Held l.window)
