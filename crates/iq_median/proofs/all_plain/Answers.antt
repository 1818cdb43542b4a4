-- `iq_median::all_plain` counts the words that are not plain. Assumes nothing.
use mathlib.Core.Path.{refl, subst}
use mathlib.Core.Bool.{not}
use native.Mathlib.Omega.{arith}
use lib.Dec.{T, eqb}
use lib.Seq.{take_all}
use lib.Ieee.{nan, binary64, fits}
use Rattle.ieee.specs.Plain.{sign_clear}
use Rattle.rules.specs.Lists.{All}
use Rattle.rules.proofs.laws.ListLaws.{good_done, none_next, bit}
use Rattle.iq_median.proofs.Lists.{all_at}
use Rattle.iq_median.proofs.all_plain.Goals as goal

pub loop-x-init : goal.loop-x-init
loop-x-init c = (omega arith, omega arith, refl, tt)

pub overflow_add-others : goal.overflow_add-others
overflow_add-others c = omega (arith, bit (not c.is_plain.result))

pub loop-x-preserved : goal.loop-x-preserved
loop-x-preserved c =
    let l = c.args.part.now in
    let v = c.loop-x in
    let h = c.loop-x-test.true in
    let t = c.is_plain.ensures in
    let b = bit (not c.is_plain.result) in (
      omega arith,
      omega arith,
      none_next sign_clear nan l v.x-index v.others c.is_plain.result h t.0 v.invariant.2,
      all_at (λ x. T (fits binary64 x)) l v.x-index h t.1 v.invariant.3,
    )

pub returns : goal.returns
returns c =
    let l = c.args.part.now in
    let v = c.loop-x in (
      good_done sign_clear l v.x-index (eqb v.others 0) c.loop-x-test.false v.invariant.2,
      subst (All (λ x. T (fits binary64 x))) (take_all v.x-index l c.loop-x-test.false) v.invariant.3,
    )
