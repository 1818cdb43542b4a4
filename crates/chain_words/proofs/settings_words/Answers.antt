-- `chain_words::settings_words`: each word by its field. Assumes nothing.
use Rattle.chain_words.proofs.settings_words.Goals as goal

pub returns : goal.returns
returns c = rw (c.mode_word.ensures, c.flag_word.ensures, c.to_bits64.ensures, c.iq_words-settled.ensures)
