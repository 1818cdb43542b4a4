-- `impulse::ImpulseSuppressor::fresh` meets its contract. Assumes nothing.
use mathlib.Core.Path.{refl}
use lib.Ieee.{of_bits}
use Rattle.impulse.proofs.ImpulseSuppressor.fresh.Goals as goal

pub returns : goal.returns
unfolding of_bits
returns c = refl
