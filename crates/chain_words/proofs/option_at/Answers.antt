-- `chain_words::option_at`: by its tag. Assumes nothing.
use Rattle.chain_words.proofs.option_at.Goals as goal

pub returns-in-0 : goal.returns-in-0
returns-in-0 c = rw c.in-0.is
