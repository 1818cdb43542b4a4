-- `chain_words::run_words`: by its variant. Assumes nothing.
use mathlib.Core.Path.{sym, ap, ◌∙◌}
use mathlib.Core.List.{[], ◌∷◌}
use Rattle.chain_words.specs.Words.{run_words}
use Rattle.chain_words.proofs.run_words.Goals as goal

pub returns-in-Some : goal.returns-in-Some
returns-in-Some c =
    (λ i. 1 ∷ c.in-Some.r.start ∷ c.in-Some.r.len ∷ c.flag_word.ensures i ∷ []) ∙ ap run_words (sym c.in-Some.is)

pub returns-in-None : goal.returns-in-None
returns-in-None c = ap run_words (sym c.in-None.is)
