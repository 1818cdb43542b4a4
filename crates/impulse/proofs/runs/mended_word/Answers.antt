-- `impulse::runs::mended_word` meets its contract. Assumes nothing.
use Rattle.impulse.specs.Machine.{mended_word}
use Rattle.impulse.proofs.runs.mended_word.Goals as goal

pub returns : goal.returns
unfolding mended_word
returns c = simp (c.pack.ensures, c.between.ensures, c.unpack-r.ensures, c.unpack-l.ensures)
