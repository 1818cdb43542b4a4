-- `chain_make::fresh_suppressor`: the setting is that of the configuration. Assumes nothing.
use mathlib.Core.Path.{◌∙◌}
use Rattle.rules.specs.Impulse.{standard, block_length}
use Rattle.impulse.specs.Machine.{fresh}
use Rattle.chain_make.proofs.fresh_suppressor.Goals as goal

pub returns : goal.returns
unfolding block_length
returns c =
    let b = c.round_half_away-blocklen.ensures in
    let p = c.applies.ensures in
    c.fresh.ensures ∙ (λ i. fresh (standard (b i) (p i)) c.args.config.edition)
