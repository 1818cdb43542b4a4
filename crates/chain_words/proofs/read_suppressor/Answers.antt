-- `chain_words::read_suppressor`: each field by its words. Assumes nothing.
use Rattle.chain_words.proofs.read_suppressor.Goals as goal

pub returns : goal.returns
returns c = cc
