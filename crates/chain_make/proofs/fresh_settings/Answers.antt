-- `chain_make::fresh_settings`: what is settled is that of the rules. Assumes nothing.
use mathlib.Core.Path.{sym, ap, ◌∙◌}
use Rattle.chain_make.specs.Making.{iq_of, fresh_settings}
use Rattle.chain_make.proofs.laws.MakingLaws.{iq_again}
use Rattle.chain_make.proofs.fresh_settings.Goals as goal

pub returns : goal.returns
unfolding fresh_settings
returns c =
    let g = c.args.config in
    let p = c.runs.ensures in
    let s = sym (iq_again c.settle.result) ∙ ap iq_of c.settle.ensures in
    λ i. record { fs = g.fs; n = g.n; spans = g.spans; repairs = g.repairs; impulse = p i; dc = g.dc; iq = s i }
