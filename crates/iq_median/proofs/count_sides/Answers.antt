-- `iq_median::count_sides` counts the words on both sides of p. Assumes nothing.
use native.Mathlib.Omega.{arith}
use lib.ListN.{get_or}
use lib.Ieee.{nan, lt}
use Rattle.rules.proofs.laws.ListLaws.{bit}
use Rattle.iq_median.proofs.Selecting.{counted_next, counted_all}
use Rattle.iq_median.proofs.count_sides.Goals as goal

pub loop-x-init : goal.loop-x-init
loop-x-init c = (omega arith, omega arith, omega arith, omega arith, omega arith)

pub overflow_add-below : goal.overflow_add-below
overflow_add-below c = omega (arith, bit (lt (get_or c.args.part.now c.loop-x.x-index nan) c.args.p))

pub overflow_add-above : goal.overflow_add-above
overflow_add-above c =
    omega (
      arith,
      bit (lt c.args.p
          (get_or c.args.part.now c.loop-x.x-index nan)),
    )

pub loop-x-preserved : goal.loop-x-preserved
loop-x-preserved c =
    let a = c.args in
    let v = c.loop-x in
    let h = c.loop-x-test.true in
    let x = get_or a.part.now v.x-index nan in
    let b = bit (lt x a.p) in
    let d = bit (lt a.p x) in (
      omega arith,
      omega arith,
      omega arith,
      counted_next (λ y. lt y a.p) a.part.now v.x-index v.below nan h v.invariant.3,
      counted_next (λ y. lt a.p y) a.part.now v.x-index v.above nan h v.invariant.4,
    )

pub returns : goal.returns
returns c =
    let a = c.args in
    let v = c.loop-x in (
      counted_all (λ y. lt y a.p) a.part.now v.x-index v.below c.loop-x-test.false v.invariant.3,
      counted_all (λ y. lt a.p y) a.part.now v.x-index v.above c.loop-x-test.false v.invariant.4,
    )
