-- `iq::IqCalibration::authorized` is what an applying stage settles. Assumes nothing.
use Rattle.std.proofs.Common.{true, false, sym, refl, ap, ◌∙◌}
use Rattle.complex.specs.View.{view64}
use Rattle.rules.specs.Iq.{coefficient}
use Rattle.iq.specs.View.{calibration_of}
use Rattle.iq.proofs.laws.Settling.{settled_by_lem}
use Rattle.iq.proofs.IqCalibration.authorized.Goals as goal

pub returns-then-not-correctable : goal.returns-then-not-correctable
returns-then-not-correctable c =
    let a = c.args in
    let z = calibration_of a.self in
    settled_by_lem z a.receiver (coefficient z) false _ refl (sym c.correctable.ensures ∙ c.if-not-correctable.true) refl

pub returns-then-not-accepted : goal.returns-then-not-accepted
returns-then-not-accepted c =
    let a = c.args in
    settled_by_lem (calibration_of a.self) a.receiver (view64 c.image_ratio-rho.result) true false
    (ap view64 c.image_ratio-rho.ensures)
    (sym c.correctable.ensures ∙ c.if-not-correctable.false)
    (sym c.accepted.ensures ∙ c.if-not-accepted.true)

pub returns : goal.returns
returns c =
    let a = c.args in
    settled_by_lem (calibration_of a.self) a.receiver (view64 c.image_ratio-rho.result) true true
    (ap view64 c.image_ratio-rho.ensures)
    (sym c.correctable.ensures ∙ c.if-not-correctable.false)
    (sym c.accepted.ensures ∙ c.if-not-accepted.false)
