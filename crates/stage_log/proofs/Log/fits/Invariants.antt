-- `stage_log::Log::fits` meets its contract: each ring before number k fits. Assumes nothing.
use mathlib.Core.Path.{◌≡◌}
use mathlib.Core.Bool.{Bool, true}
use Prim.Native.Nat.{ℕ, ◌≤◌}
use Rattle.stage_log.specs.declared.Log.{Log}
use Rattle.stage_log.specs.Check.{all_to, ring_fits, ring_of, count_of}
use Rattle.stage_log.proofs.Log.fits.Given as goal

abbrev pub test : ℕ → Log → ℕ → Bool
test cap l j = ring_fits cap (ring_of l j) (count_of l j)

abbrev pub invariant-loop-marks : goal.invariant-loop-marks
invariant-loop-marks l = (l.marks-index ≤ 12) × (all_to (test l.capacity l.fn.self) l.marks-index ≡ true)
