-- `vatgorge::log_numbers`: each word by its field. Assumes nothing.
use Rattle.vatgorge.proofs.log_numbers.Goals as goal

pub returns : goal.returns
returns c = rw (c.iq_words-settled.ensures, c.level_words-level.ensures, c.ring_words-ring.ensures)
