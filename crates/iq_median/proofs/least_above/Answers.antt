-- `iq_median::least_above` goes from the end to the first word. Assumes nothing.
use mathlib.Core.Path.{◌≡◌, refl, ap, ◌∙◌}
use mathlib.Core.Bool.{true, false}
use Prim.Native.Nat.{ℕ, ◌-◌}
use native.Mathlib.Omega.{arith}
use lib.ListN.{get_or, drop}
use lib.Ieee.{binary64, nan, lt}
use Rattle.ieee.proofs.laws.Nan.{zero_by_zero}
use Rattle.iq_median.specs.Select.{least_above}
use Rattle.iq_median.proofs.Selecting.{least_end, least_step}
use Rattle.iq_median.proofs.least_above.Goals as goal
use Rattle.iq_median.proofs.least_above.Goals.{else-p-x-via-then-p-x+else-not-least-x, else-p-x-via-else-p-x}

pub loop-k-init : goal.loop-k-init
loop-k-init c = (omega arith, zero_by_zero binary64 ∙ least_end c.args.p c.args.part.now)

pub loop-k-preserved-then-not-least-x : goal.loop-k-preserved-then-not-least-x
loop-k-preserved-then-not-least-x c =
    let v = c.loop-k in (
      omega arith,
      least_step c.args.p c.args.part.now v.k v.least true false c.loop-k-test.true v.invariant.0 v.invariant.1
          c.if-p-x.true c.if-not-least-x.true,
    )

pub loop-k-preserved : goal.loop-k-preserved
loop-k-preserved c =
    let v = c.loop-k in (
      omega arith,
      elim c.else-p-x.branch [
        | else-p-x-via-then-p-x+else-not-least-x w ↦
            least_step c.args.p c.args.part.now v.k v.least true true c.loop-k-test.true v.invariant.0 v.invariant.1
            w.if-p-x.true w.if-not-least-x.false
        | else-p-x-via-else-p-x w ↦
            least_step c.args.p c.args.part.now v.k v.least false (lt v.least (get_or c.args.part.now (v.k - 1) nan))
            c.loop-k-test.true v.invariant.0 v.invariant.1 w.if-p-x.false refl
      ],
    )

pub returns : goal.returns
returns c = let a = c.args in let v = c.loop-k in let z : v.k ≡ 0 = omega arith in
    v.invariant.1 ∙ ap (λ (i : ℕ). least_above a.p (drop i a.part.now)) z
