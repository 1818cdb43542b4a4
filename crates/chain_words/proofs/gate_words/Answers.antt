-- `chain_words::gate_words`: each word by its field. Assumes nothing.
use Rattle.chain_words.proofs.gate_words.Goals as goal

pub returns : goal.returns
returns c = rw (c.block_words-b.ensures, c.mending_words-m.ensures, c.gate_settings_words-s.ensures)
