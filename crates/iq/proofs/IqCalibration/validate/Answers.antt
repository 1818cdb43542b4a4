-- `iq::IqCalibration::validate` answers by the number of `validation`. Assumes nothing.
use Rattle.std.proofs.Common.{◌≡◌, Bool, true, false, cond, not, sym, refl, ◌∙◌}
use lib.Ieee.{neg, of_bits}
use Rattle.rules.specs.Refusals.{validation}
use Rattle.iq.specs.View.{calibration_of}
use Rattle.iq.proofs.laws.Tests.{validation_by}
use Rattle.iq.proofs.IqCalibration.validate.Goals as goal
use Rattle.iq.proofs.IqCalibration.validate.Goals.{After-finite_positive}

pub returns-then-not-in_range : goal.returns-then-not-in_range
returns-then-not-in_range c =
    validation_by (calibration_of c.args.self) false _ _ (sym c.in_range.ensures ∙ c.if-not-in_range.true) refl refl

pub returns-then-not-in_range-2 : goal.returns-then-not-in_range-2
unfolding neg of_bits
returns-then-not-in_range-2 c =
    validation_by (calibration_of c.args.self) true false _
    (sym c.in_range.ensures ∙ c.if-not-in_range.false)
    (sym c.in_range-2.ensures ∙ c.if-not-in_range-2.true) refl

-- past the first two tests, by the answer t of the third
by_third : (c : After-finite_positive) (t : Bool) → c.finite_positive.result ≡ t
    → cond (not t) 13 0 ≡ validation (calibration_of c.args.self)
unfolding neg of_bits
by_third c t e =
    validation_by (calibration_of c.args.self) true true t
    (sym c.in_range.ensures ∙ c.if-not-in_range.false)
    (sym c.in_range-2.ensures ∙ c.if-not-in_range-2.false)
    (sym c.finite_positive.ensures ∙ e)

pub returns-then-not-finite_positive : goal.returns-then-not-finite_positive
returns-then-not-finite_positive c = by_third (goal.at.returns-then-not-finite_positive c).After-finite_positive false c.if-not-finite_positive.true

pub returns : goal.returns
returns c = by_third (goal.at.returns c).After-finite_positive true c.if-not-finite_positive.false
