-- `iq_correction::uncorrect` is `uncorrected_by`. Assumes nothing.
use Rattle.complex.specs.View.{view64}
use Rattle.iq_correction.proofs.laws.Steps.{uncorrected_by_lem}
use Rattle.iq_correction.proofs.uncorrect.Goals as goal

pub returns : goal.returns
returns c =
    let a = c.args in
    let divided = c.unscale.ensures in
    let more = c.add.ensures in
    let times = c.mul.ensures in
    let mirrored = c.conj.ensures in
    let sampled = c.unpack-y.ensures in
    uncorrected_by_lem (view64 a.rho) a.w a.divisor c.rounded-m.ensures divided more times mirrored sampled
