-- `amplitude_limit::check` refuses at the place that is found. Assumes nothing.
use Rattle.std.proofs.Common.{refl, sym, lt-ltb, le-ltb}
use Rattle.amplitude_limit.specs.Limit.{checked}
use Rattle.amplitude_limit.proofs.check.Goals as goal

pub returns-then-place-samples : goal.returns-then-place-samples
unfolding checked
returns-then-place-samples c =
    rw (sym c.first_beyond-place.ensures, lt-ltb _ _ c.if-place-samples.true) refl

pub returns : goal.returns
unfolding checked
returns c =
    rw (sym c.first_beyond-place.ensures, le-ltb _ _ c.if-place-samples.false) refl
