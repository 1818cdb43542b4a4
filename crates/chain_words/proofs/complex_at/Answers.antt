-- `chain_words::complex_at`: each field by its word. Assumes nothing.
use Rattle.chain_words.proofs.complex_at.Goals as goal

pub returns : goal.returns
returns c = cc
