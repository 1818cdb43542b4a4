-- `vatgorge::recording::vg_header`: by what the header says. Assumes nothing.
use mathlib.Core.Path.{sym, ap, ◌∙◌}
use Rattle.replay_format.proofs.laws.HeaderLaws.{config_again}
use Rattle.vatgorge.specs.Config.{config_words}
use Rattle.vatgorge.specs.Recording.{header_words}
use Rattle.vatgorge.proofs.recording.vg_header.Goals as goal

pub returns-in-Ok-clause-words : goal.returns-in-Ok-clause-words
returns-in-Ok-clause-words c =
    c.write_config.ensures.words ∙ ap config_words (sym (config_again _)) ∙ ap (header_words c.args.config.now) c.in-Ok.ensures
