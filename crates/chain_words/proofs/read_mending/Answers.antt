-- `chain_words::read_mending`: each field by its words. Assumes nothing.
use Rattle.chain_words.proofs.read_mending.Goals as goal

pub returns : goal.returns
returns c = cc
