-- `chain_words::read_notes`: each field by its words. Assumes nothing.
use Rattle.chain_words.proofs.read_notes.Goals as goal

pub returns : goal.returns
returns c = cc
