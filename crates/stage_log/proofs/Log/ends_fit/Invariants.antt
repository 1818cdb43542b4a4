-- `stage_log::Log::ends_fit` meets its contract: the newest span of each ring before number k ends in range. Assumes nothing.
use mathlib.Core.Path.{◌≡◌}
use mathlib.Core.Bool.{Bool, true}
use Prim.Native.Nat.{ℕ, ◌≤◌}
use Rattle.stage_log.specs.View.{Logged, marks_at}
use Rattle.stage_log.specs.Check.{all_to, end_fits}
use Rattle.stage_log.proofs.Log.ends_fit.Given as goal

abbrev pub test : ℕ → Logged → ℕ → Bool
test cap x j = end_fits cap (marks_at cap x j).ring

abbrev pub invariant-loop-k : goal.invariant-loop-k
invariant-loop-k l = (l.k ≤ 12) × (all_to (test l.capacity (record { log = l.fn.self; spans = l.spans })) l.k ≡ true)
