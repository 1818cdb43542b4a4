-- `dc::DcBlocker::weight` is `weight`. Assumes nothing.
use Rattle.std.proofs.Common.{◌≡◌, Bool, true, false, cond, sym, ap, ◌∙◌}
use lib.Ieee.{Float, binary64, lt, div}
use Rattle.rules.specs.Constants.{one}
use Rattle.rules.specs.Dc.{weight, larger}
use Rattle.dc.proofs.DcBlocker.weight.Goals as goal
use Rattle.dc.proofs.DcBlocker.weight.Goals.{After-nearest_u64_to_f64-share}

-- by the comparison's answer t
by_test : (c : After-nearest_u64_to_f64-share) (t : Bool) → let a = c.args.self.now.a in
    let share = div binary64 one c.nearest_u64_to_f64-share.result in lt a share ≡ t → cond t share a ≡ weight a c.args.self.now.n
unfolding weight
by_test c t e =
    let a = c.args.self.now.a in
    let share = div binary64 one c.nearest_u64_to_f64-share.result in
    ap (λ (s : Bool). cond s share a) (sym e) ∙ ap (λ (x : Float). larger a (div binary64 one x)) c.nearest_u64_to_f64-share.ensures

pub returns-then-self-share : goal.returns-then-self-share
returns-then-self-share c = by_test (goal.at.returns-then-self-share c).After-nearest_u64_to_f64-share true c.if-self-share.true

pub returns-else-self-share : goal.returns-else-self-share
returns-else-self-share c = by_test (goal.at.returns-else-self-share c).After-nearest_u64_to_f64-share false c.if-self-share.false
