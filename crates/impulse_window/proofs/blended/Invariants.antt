-- `impulse_window::blended` meets its contract: the places passed are those of the blend. Assumes nothing.
use mathlib.Core.Path.{◌≡◌}
use Prim.Native.Nat.{suc}
use lib.ListN.{length, take}
use Rattle.rules.specs.Impulse.{window_size}
use Rattle.impulse_window.specs.Rising.{blended}
use Rattle.impulse_window.proofs.blended.Given as goal

abbrev pub invariant-loop-k : goal.invariant-loop-k
invariant-loop-k l =
    (length l.out ≡ window_size) × (take (suc l.k) l.out ≡ take (suc l.k) (blended l.old l.p l.sorted))
