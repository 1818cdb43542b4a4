-- `iq::IqCalibration::image_ratio` is `coefficient`. Assumes nothing.
use Rattle.std.proofs.Common.{ap, ◌∙◌}
use lib.Ieee.{binary64}
use Rattle.complex.specs.Complex.{quotient, one_minus, one_plus}
use Rattle.complex.specs.View.{view64, make64}
use Rattle.rules.specs.Iq.{turned, coefficient}
use Rattle.iq.specs.View.{calibration_of}
use Rattle.iq.proofs.IqCalibration.image_ratio.Goals as goal

pub returns : goal.returns
unfolding coefficient
returns c =
    let w = turned (calibration_of c.args.self) in
    let t = c.turned-w.ensures in
    let above = c.one_minus.ensures ∙ ap (λ z. make64 (one_minus binary64 (view64 z))) t in
    let below = c.one_plus.ensures ∙ ap (λ z. make64 (one_plus binary64 (view64 z))) t in
    c.div.ensures
    ∙ ap (λ z. make64 (quotient binary64 (view64 z) (view64 c.one_plus.result))) above
    ∙ ap (λ z. make64 (quotient binary64 (one_minus binary64 w) (view64 z))) below
