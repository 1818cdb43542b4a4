-- `chain_words::read_blocker`: each field by its word. Assumes nothing.
use Rattle.chain_words.proofs.read_blocker.Goals as goal

pub returns : goal.returns
returns c = cc
