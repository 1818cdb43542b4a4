-- `iq::IqCalibration::turned` is `turned`. Assumes nothing.
use Rattle.std.proofs.Common.{ap}
use lib.Ieee.{binary64, mul}
use Rattle.rules.specs.Iq.{turned}
use Rattle.iq.proofs.IqCalibration.turned.Goals as goal

pub returns : goal.returns
unfolding turned
returns c =
    let gain = c.args.self.gain in
    let re = ap (mul binary64 gain) c.cosine.ensures in
    let im = ap (mul binary64 gain) c.sine.ensures in
    λ i. record { re = re i; im = im i }
