-- `vatgorge::config::vg_is_off`: `is_off` of the configuration that the words say. Assumes nothing.
use mathlib.Core.Path.{ap, ◌∙◌}
use Rattle.chain_config.specs.declared.ConditioningConfig.{ConditioningConfig}
use Rattle.chain_config.specs.Config.{config_of, all_off}
use Rattle.chain_words.specs.Words.{flag_word}
use Rattle.vatgorge.proofs.config.vg_is_off.Goals as goal

pub returns : goal.returns
returns c =
    let read = c.read_config-asked.ensures in
    c.flag_word.ensures ∙ ap flag_word (c.is_off.ensures ∙ ap (λ (g : ConditioningConfig). all_off (config_of g)) read)
