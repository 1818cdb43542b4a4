-- `iq::IqCalibration::correctable` is `correctable`. Assumes nothing.
use Rattle.std.proofs.Common.{◌≡◌, ℕ, Bool, true, false, ◌&&◌, eqb, sym, refl, ap, ◌∙◌}
use Rattle.rules.specs.Iq.{gain_fits, phase_fits, centre_fits, centres_agree, correctable}
use Rattle.iq.specs.View.{calibration_of}
use Rattle.iq.proofs.laws.Tests.{fits_by, validation_by, valid_by}
use Rattle.iq.proofs.IqCalibration.correctable.Goals as goal
use Rattle.iq.proofs.IqCalibration.correctable.Goals.{After-is_ok}

-- by validation's answer t
by_validation : (c : After-is_ok) (t : Bool) → c.is_ok.result ≡ t → let a = c.args in
    (t && centres_agree a.self.centre a.receiver) ≡ correctable (calibration_of a.self) a.receiver
by_validation c t e =
    let a = c.args in
    let z = calibration_of a.self in
    let number = c.validate.ensures ∙ sym (validation_by z (gain_fits z) (phase_fits z) (centre_fits z) refl refl refl) in
    let valid : (gain_fits z && phase_fits z && centre_fits z) ≡ t = fits_by (gain_fits z) (phase_fits z) (centre_fits z) ∙ ap (λ (n : ℕ). eqb n 0) (sym number)
    ∙ sym (valid_by c.validate.result) ∙ sym c.is_ok.ensures.value ∙ e in
    ap (λ (s : Bool). s && centres_agree a.self.centre a.receiver) (sym valid)

pub returns-then-is_ok : goal.returns-then-is_ok
returns-then-is_ok c = c.centres_agree.ensures ∙ by_validation (goal.at.returns-then-is_ok c).After-is_ok true c.if-is_ok.true

pub returns-else-is_ok : goal.returns-else-is_ok
returns-else-is_ok c = c.if-is_ok.false ∙ by_validation (goal.at.returns-else-is_ok c).After-is_ok false c.if-is_ok.false
