-- `chain_words::read_gate`: each field by its words. Assumes nothing.
use Rattle.chain_words.proofs.read_gate.Goals as goal

pub returns : goal.returns
returns c = rw (c.read_block.ensures, c.read_mending.ensures, c.read_gate_settings.ensures)
