-- `amplitude_limit::all_under` puts the bits of all samples together. Assumes nothing.
use mathlib.Core.Path.{◌≡◌}
use mathlib.Core.Bool.{◌&&◌}
use Prim.Native.Nat.{◌≤◌}
use lib.ListN.{length, drop}
use Rattle.rules.specs.Lists.{all_of}
use Rattle.amplitude_limit.specs.Limit.{under, halves_clear}
use Rattle.amplitude_limit.proofs.all_under.Given as goal

abbrev pub invariant-loop-w : goal.invariant-loop-w
invariant-loop-w l =
    (l.w-index ≤ length l.samples) × ((halves_clear l.bits && all_of (under l.limit) (drop l.w-index l.samples)) ≡ all_of (under l.limit) l.samples)
