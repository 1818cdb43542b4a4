-- `chain_words::iq_typed`: by its variant. Assumes nothing.
use mathlib.Core.Path.{sym, subst}
use Rattle.chain_words.specs.Typed.{IqTyped}
use Rattle.chain_words.proofs.iq_typed.Goals as goal

pub returns-in-Off : goal.returns-in-Off
returns-in-Off c = subst IqTyped (sym c.in-Off.is) tt

pub returns-in-Observing : goal.returns-in-Observing
returns-in-Observing c = subst IqTyped (sym c.in-Observing.is) tt

pub returns-in-Correcting : goal.returns-in-Correcting
returns-in-Correcting c = subst IqTyped (sym c.in-Correcting.is) c.complex_typed.ensures

pub returns-in-Withheld : goal.returns-in-Withheld
returns-in-Withheld c = subst IqTyped (sym c.in-Withheld.is) tt
