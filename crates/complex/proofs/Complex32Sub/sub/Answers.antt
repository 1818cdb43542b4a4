-- `sub` of `complex::Complex32` is `difference`, operation by operation. Assumes nothing.
use mathlib.Core.Path.{refl}
use Rattle.complex.specs.Complex.{difference}
use Rattle.complex.proofs.Complex32Sub.sub.Goals as goal

pub returns : goal.returns
unfolding difference
returns c = refl
