-- `impulse_arrays::all_fit` meets its contract: the answer so far is that of the powers before k. Assumes nothing.
use mathlib.Core.Path.{refl, ap, ◌∙◌}
use mathlib.Core.Bool.{◌&&◌}
use native.Mathlib.Numerals.{add-one}
use native.Mathlib.Omega.{arith}
use lib.Ieee.{nan}
use Rattle.rules.specs.Constants.{zero_f}
use Rattle.stage_log.specs.Check.{all_to}
use Rattle.impulse_arrays.specs.Fits.{power_fits}
use Rattle.impulse.proofs.laws.CircleLaws.{any_default}
use Rattle.impulse_arrays.proofs.all_fit.Goals as goal

pub loop-p-init : goal.loop-p-init
unfolding all_to
loop-p-init c = refl

pub loop-p-preserved : goal.loop-p-preserved
unfolding all_to
loop-p-preserved c =
    let l = c.loop-p in
    let here = c.power_fits-fit.ensures ∙ ap power_fits (any_default c.args.powers.now l.p-index nan zero_f (omega arith)) in
    rw (add-one l.p-index) (λ i. l.invariant i && here i)
