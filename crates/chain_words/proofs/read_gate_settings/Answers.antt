-- `chain_words::read_gate_settings`: each field by its word. Assumes nothing.
use Rattle.chain_words.proofs.read_gate_settings.Goals as goal

pub returns : goal.returns
returns c = cc
