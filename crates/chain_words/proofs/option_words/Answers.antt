-- `chain_words::option_words`: by its variant. Assumes nothing.
use mathlib.Core.Path.{sym, ap}
use Rattle.chain_words.specs.Words.{option_words}
use Rattle.chain_words.proofs.option_words.Goals as goal

pub returns-in-Some : goal.returns-in-Some
returns-in-Some c = ap option_words (sym c.in-Some.is)

pub returns-in-None : goal.returns-in-None
returns-in-None c = ap option_words (sym c.in-None.is)
