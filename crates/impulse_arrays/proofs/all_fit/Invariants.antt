-- `impulse_arrays::all_fit` meets its contract: the answer so far is that of the powers before k. Assumes nothing.
use mathlib.Core.Path.{◌≡◌}
use mathlib.Core.Bool.{Bool}
use mathlib.Core.List.{List}
use Prim.Native.Nat.{ℕ}
use lib.ListN.{get_or}
use lib.Ieee.{Float}
use Rattle.rules.specs.Constants.{zero_f}
use Rattle.stage_log.specs.Check.{all_to}
use Rattle.impulse_arrays.specs.Fits.{power_fits}
use Rattle.impulse_arrays.proofs.all_fit.Given as goal

abbrev pub test : List Float → ℕ → Bool
test xs k = power_fits (get_or xs k zero_f)

abbrev pub invariant-loop-p : goal.invariant-loop-p
invariant-loop-p l = l.fit ≡ all_to (test l.powers) l.p-index
