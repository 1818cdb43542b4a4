-- `amplitude_limit::is_limited` is `limited`: a size at most 1e18 is a number from -1e18 to 1e18. Assumes nothing.
use mathlib.Core.Path.{◌≡◌, sym, ap, ◌∙◌}
use mathlib.Core.Bool.{Bool, true, false, ◌&&◌}
use lib.Ieee.{Float, le, neg}
use Rattle.rules.specs.Constants.{part_limit}
use Rattle.amplitude_limit.specs.Limit.{limited}
use Rattle.amplitude_limit.proofs.laws.LimitLaws.{limited_is}
use Rattle.amplitude_limit.proofs.is_limited.Goals as goal

-- by the first comparison's answer t
by_first : (x : Float) (t : Bool) → le (neg part_limit) x ≡ t → (t && le x part_limit) ≡ limited x
by_first x t e = sym (limited_is x ∙ ap (λ (s : Bool). s && le x part_limit) e)

pub returns-then-x : goal.returns-then-x
returns-then-x c = by_first c.args.x true c.if-x.true

pub returns-else-x : goal.returns-else-x
returns-else-x c = c.if-x.false ∙ by_first c.args.x false c.if-x.false
