-- `chain_words::read_settings`: each field by its word. Assumes nothing.
use Rattle.chain_words.proofs.read_settings.Goals as goal

pub returns : goal.returns
returns c =
    rw (c.iq_at.ensures, c.mode_at.ensures, c.flag_of.ensures, c.from_bits64.ensures)
