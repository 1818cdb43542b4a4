-- `mul` of `complex::Complex64` is `product`, operation by operation. Assumes nothing.
use mathlib.Core.Path.{refl}
use Rattle.complex.specs.Complex.{product}
use Rattle.complex.proofs.Complex64Mul.mul.Goals as goal

pub returns : goal.returns
unfolding product
returns c = refl
