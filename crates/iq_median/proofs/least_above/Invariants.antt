-- `iq_median::least_above` goes from the end to the first word. Assumes nothing.
use mathlib.Core.Path.{◌≡◌}
use Prim.Native.Nat.{◌≤◌}
use lib.ListN.{length, drop}
use Rattle.iq_median.specs.Select.{least_above}
use Rattle.iq_median.proofs.least_above.Given as goal

abbrev pub invariant-loop-k : goal.invariant-loop-k
invariant-loop-k l = (l.k ≤ length l.part) × (l.least ≡ least_above l.p (drop l.k l.part))
