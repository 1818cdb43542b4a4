-- `vatgorge::config::write_config`: its words say it, by its types. Assumes nothing.
use mathlib.Core.Path.{ap, ◌∙◌}
use Rattle.vatgorge.proofs.laws.ConfigAgain.{config_again}
use Rattle.vatgorge.specs.Config.{config_in}
use Rattle.vatgorge.proofs.config.write_config.Goals as goal

pub returns : goal.returns
returns c =
    let words = c.config_words.ensures in
    record {
      words = words;
      again = ap config_in words ∙ config_again c.args.config c.config_typed.ensures;
    }
