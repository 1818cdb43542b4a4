-- `chain_words::notes_words`: each word by its field. Assumes nothing.
use Rattle.chain_words.proofs.notes_words.Goals as goal

pub returns : goal.returns
returns c = rw c.ring_words-ring.ensures
