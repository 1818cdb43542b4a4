-- `stage_log::Log::dropped` meets its contract: the sum is that of the rings before number k, as a u64 has it. Assumes nothing.
use mathlib.Core.Path.{◌≡◌, refl, ap, ◌∙◌}
use Prim.Native.Nat.{ℕ, ◌+◌, ◌-◌, ◌^◌, min}
use native.Mathlib.Numerals.{add-one}
use native.Mathlib.Omega.{arith}
use borrow.Author.Rules.{rules}
use Rattle.stage_log.specs.Check.{sum_to, spans_dropped}
use Rattle.stage_log.proofs.Log.dropped.Invariants.{each}
use Rattle.stage_log.proofs.Log.dropped.Goals as goal

pub loop-marks-init : goal.loop-marks-init
unfolding sum_to
loop-marks-init c = (omega arith, refl)

-- a cap on the way, and the cap at the end
capped : (s d m : ℕ) → min (min s m + d) m ≡ min (s + d) m
capped s d m = omega arith

pub loop-marks-preserved : goal.loop-marks-preserved
unfolding sum_to
loop-marks-preserved c =
    let l = c.loop-marks in
    let f = each c.args.self in
    let m = 2 ^ 64 - 1 in
    (search rules, rw (add-one l.marks-index) (c.saturating_add-sum.ensures ∙ ap (λ (n : ℕ). min (n + f l.marks-index) m) l.invariant.1 ∙ capped (sum_to f l.marks-index) (f l.marks-index) m))

pub returns : goal.returns
unfolding spans_dropped
returns c =
    let l = c.loop-marks in
    let e : l.marks-index ≡ 12 = omega (arith, c.loop-marks-test.false, l.invariant.0) in
    rw e at l.invariant.1
