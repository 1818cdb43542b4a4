-- `complex::Complex32::norm_sqr` is `power`, operation by operation. Assumes nothing.
use mathlib.Core.Path.{refl}
use Rattle.complex.specs.Complex.{power}
use Rattle.complex.proofs.Complex32.norm_sqr.Goals as goal

pub returns : goal.returns
unfolding power
returns c = refl
