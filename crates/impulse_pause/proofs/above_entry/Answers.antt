-- `impulse_pause::above_entry` meets its contract. Assumes nothing.
use Rattle.rules.specs.Pauses.{above_entry}
use Rattle.impulse_pause.proofs.above_entry.Goals as goal

pub returns : goal.returns
unfolding above_entry
returns c = simp (c.nearest_u64_to_f64-2.ensures, c.nearest_u64_to_f64.ensures)
