-- `chain_words::read_monitor`: each field by its word. Assumes nothing.
use Rattle.chain_words.proofs.read_monitor.Goals as goal

pub returns : goal.returns
returns c = cc
