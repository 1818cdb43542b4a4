-- `chain_log::log`: each field is the state's. Assumes nothing.
use mathlib.Core.Path.{sym, ap, ◌∙◌}
use Rattle.chain_log.specs.Reading.{level_from, log_of}
use Rattle.chain_log.proofs.laws.ReadingLaws.{level_again}
use Rattle.chain_log.proofs.log.Goals as goal

pub returns-clause-log : goal.returns-clause-log
unfolding log_of
returns-clause-log c =
    let s = c.args.state.now in
    let l = sym (level_again c.dc_level.result) ∙ ap level_from c.dc_level.ensures in
    λ i. record { counts = s.counts; notes = s.notes; dropped = c.dropped.ensures i; dclevel = l i; iq = s.settings.iq }
