-- `vatgorge::config::calibration_words`: by its variant. Assumes nothing.
use mathlib.Core.Path.{sym, ap, ◌∙◌}
use mathlib.Core.List.{[], ◌∷◌}
use Rattle.vatgorge.specs.Config.{calibration_words}
use Rattle.vatgorge.proofs.config.calibration_words.Goals as goal

pub returns-in-None : goal.returns-in-None
returns-in-None c = ap calibration_words (sym c.in-None.is)

pub returns-in-Some : goal.returns-in-Some
returns-in-Some c =
    (λ i. 1 ∷ c.to_bits64.ensures i ∷ c.to_bits64-in-Some.ensures i ∷ c.to_bits64-in-Some-2.ensures i ∷ [])
    ∙ ap calibration_words (sym c.in-Some.is)
