-- `chain_words::read_block`: each field by its word. Assumes nothing.
use Rattle.chain_words.proofs.read_block.Goals as goal

pub returns : goal.returns
returns c = cc
