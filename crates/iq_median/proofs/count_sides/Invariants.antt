-- `iq_median::count_sides` counts the words on both sides of p. Assumes nothing.
use mathlib.Core.Path.{◌≡◌}
use Prim.Native.Nat.{◌+◌, ◌≤◌}
use lib.ListN.{length, drop}
use Rattle.iq_median.specs.Select.{below_of, above_of}
use Rattle.iq_median.proofs.count_sides.Given as goal

abbrev pub invariant-loop-x : goal.invariant-loop-x
invariant-loop-x l =
    (l.x-index ≤ length l.part) × (l.below ≤ l.x-index) × (l.above ≤ l.x-index) × (l.below + length (below_of l.p (drop l.x-index l.part)) ≡ length (below_of l.p l.part))
    × (l.above + length (above_of l.p (drop l.x-index l.part)) ≡ length (above_of l.p l.part))
