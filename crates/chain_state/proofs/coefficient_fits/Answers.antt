-- `chain_state::coefficient_fits` is `coefficient_fits` of what was settled. Assumes nothing.
use mathlib.Core.Path.{sym, ap, ◌∙◌}
use Rattle.iq.specs.View.{settled_of}
use Rattle.chain_state.specs.Fits.{coefficient_fits}
use Rattle.chain_state.proofs.coefficient_fits.Goals as goal

pub returns-in-Correcting : goal.returns-in-Correcting
returns-in-Correcting c = c.accepted.ensures ∙ sym (ap (λ s. coefficient_fits (settled_of s)) c.in-Correcting.is)
