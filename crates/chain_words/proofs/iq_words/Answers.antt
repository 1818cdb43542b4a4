-- `chain_words::iq_words`: by its variant. Assumes nothing.
use mathlib.Core.Path.{sym, ap, ◌∙◌}
use mathlib.Core.List.{[], ◌∷◌}
use Rattle.chain_words.specs.Words.{iq_words}
use Rattle.chain_words.proofs.iq_words.Goals as goal

pub returns-in-Off : goal.returns-in-Off
returns-in-Off c = ap iq_words (sym c.in-Off.is)

pub returns-in-Observing : goal.returns-in-Observing
returns-in-Observing c = ap iq_words (sym c.in-Observing.is)

pub returns-in-Correcting : goal.returns-in-Correcting
returns-in-Correcting c = (λ i. 2 ∷ c.to_bits64.ensures i ∷ c.to_bits64-in-Correcting.ensures i ∷ []) ∙ ap iq_words (sym c.in-Correcting.is)

pub returns-in-Withheld : goal.returns-in-Withheld
returns-in-Withheld c = ap iq_words (sym c.in-Withheld.is)
