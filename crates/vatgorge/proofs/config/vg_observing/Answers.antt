-- `vatgorge::config::vg_observing`: `observing` of the configuration that the words say. Assumes nothing.
use mathlib.Core.Path.{sym, ap, ◌∙◌}
use Rattle.chain_config.specs.declared.ConditioningConfig.{ConditioningConfig}
use Rattle.chain_config.specs.Config.{config_of, observed}
use Rattle.replay_format.specs.Header.{config_from}
use Rattle.replay_format.proofs.laws.HeaderLaws.{config_again}
use Rattle.vatgorge.specs.Config.{config_words}
use Rattle.vatgorge.proofs.config.vg_observing.Goals as goal

pub returns : goal.returns
returns c =
    let o = c.observing in
    let read = c.read_config-asked.ensures in
    let said = o.ensures ∙ ap (λ (g : ConditioningConfig). observed (config_of g)) read in
    let same = sym (config_again o.result) ∙ ap config_from said in
    record {
      words = c.write_config.ensures.words ∙ ap config_words same;
      again = c.write_config.ensures.again ∙ same;
    }
