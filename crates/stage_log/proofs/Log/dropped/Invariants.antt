-- `stage_log::Log::dropped` meets its contract: the sum is that of the rings before number k, as a u64 has it. Assumes nothing.
use mathlib.Core.Path.{◌≡◌}
use Prim.Native.Nat.{ℕ, ◌-◌, ◌≤◌, ◌^◌, min}
use Rattle.stage_log.specs.declared.Log.{Log}
use Rattle.stage_log.specs.Check.{sum_to, ring_of}
use Rattle.stage_log.proofs.Log.dropped.Given as goal

abbrev pub each : Log → ℕ → ℕ
each l k = (ring_of l k).dropped

abbrev pub invariant-loop-marks : goal.invariant-loop-marks
invariant-loop-marks l = (l.marks-index ≤ 12) × (l.sum ≡ min (sum_to (each l.fn.self) l.marks-index) (2 ^ 64 - 1))
