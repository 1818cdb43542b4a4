-- `impulse_arrays::all_occur` meets its contract: the answer so far is that of the powers before k. Assumes nothing.
use mathlib.Core.Path.{◌≡◌, refl, ap, ◌∙◌}
use mathlib.Core.Bool.{◌&&◌}
use native.Mathlib.Numerals.{add-one}
use native.Mathlib.Omega.{arith}
use lib.Ieee.{Float, nan}
use Rattle.rules.specs.Constants.{zero_f}
use Rattle.rules.specs.Impulse.{window_size}
use Rattle.stage_log.specs.Check.{all_to}
use Rattle.impulse.proofs.laws.CircleLaws.{any_default}
use Rattle.impulse_arrays.specs.Occurs.{occurs}
use Rattle.impulse_arrays.proofs.all_occur.Goals as goal

pub loop-x-init : goal.loop-x-init
unfolding all_to
loop-x-init c = (refl, λ h. absurd (omega arith))

pub loop-x-preserved : goal.loop-x-preserved
unfolding all_to
loop-x-preserved c =
    let a = c.args in
    let l = c.loop-x in
    let here = c.occurs-all.ensures.result
    ∙ ap (λ (x : Float). occurs x a.window.now)
    (any_default a.sorted.now l.x-index nan zero_f (omega arith)) in
    (rw (add-one l.x-index) (λ i. l.invariant.0 i && here i), λ h. c.occurs-all.ensures.values)

pub returns : goal.returns
returns c =
    let l = c.loop-x in
    let e : l.x-index ≡ window_size = omega arith in
    record {
      result = rw e at l.invariant.0;
      values = l.invariant.1 (omega arith);
    }
