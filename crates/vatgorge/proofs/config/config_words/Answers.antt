-- `vatgorge::config::config_words`: each word by its field. Assumes nothing.
use Rattle.vatgorge.specs.Config.{config_words}
use Rattle.vatgorge.proofs.config.config_words.Goals as goal

pub returns : goal.returns
unfolding config_words
returns c =
    rw (
      c.from.ensures,
      c.to_bits64-2.ensures,
      c.to_bits64.ensures,
      c.mode_word-3.ensures,
      c.mode_word-2.ensures,
      c.mode_word.ensures,
      c.calibration_words-calibrated.ensures,
    )
