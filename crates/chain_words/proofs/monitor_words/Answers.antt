-- `chain_words::monitor_words`: each word by its field. Assumes nothing.
use Rattle.chain_words.proofs.monitor_words.Goals as goal

pub returns : goal.returns
returns c = rw c.option_words-begun.ensures
