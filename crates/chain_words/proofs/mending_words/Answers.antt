-- `chain_words::mending_words`: each word by its field. Assumes nothing.
use Rattle.chain_words.proofs.mending_words.Goals as goal

pub returns : goal.returns
returns c = rw (c.option_words-left.ensures, c.run_words-run.ensures)
