-- `impulse_pause::within_exit` meets its contract. Assumes nothing.
use Rattle.rules.specs.Pauses.{within_exit}
use Rattle.impulse_pause.proofs.within_exit.Goals as goal

pub returns : goal.returns
unfolding within_exit
returns c = simp (c.nearest_u64_to_f64-2.ensures, c.nearest_u64_to_f64.ensures)
