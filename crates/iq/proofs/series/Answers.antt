-- `iq::series` is `series`. The invariant: the turns that are left give the same. Assumes nothing.
use Rattle.std.proofs.Common.{◌≡◌, ℕ, ◌+◌, ◌-◌, ap, ◌∙◌, arith}
use Rattle.rules.specs.Constants.{one}
use Rattle.iq.specs.Series.{series}
use Rattle.iq.proofs.laws.Series.{turn_from, series_end}
use Rattle.iq.proofs.series.Goals as goal

pub loop-k-init : goal.loop-k-init
loop-k-init c =
    let k : c.args.steps + 1 - 1 ≡ c.args.steps = omega arith in
    ap (λ (n : ℕ). series c.args.odd c.args.u n one) k

pub loop-k-preserved : goal.loop-k-preserved
loop-k-preserved c = turn_from _ _ _ _ _ (omega arith) c.nearest_u64_to_f64.ensures ∙ c.loop-k.invariant

pub returns : goal.returns
returns c = series_end _ _ _ _ (omega arith) ∙ c.loop-k.invariant
