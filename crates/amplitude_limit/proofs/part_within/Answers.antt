-- `amplitude_limit::part_within`: a wider format has the same number. Assumes nothing.
use mathlib.Core.Path.{ap, ◌∙◌}
use Rattle.amplitude_limit.specs.Limit.{limited}
use Rattle.amplitude_limit.proofs.part_within.Goals as goal

pub returns : goal.returns
returns c = c.is_limited.ensures ∙ ap limited c.widen.ensures
