-- `complex::Complex64::conj` is `conjugate`, operation by operation. Assumes nothing.
use mathlib.Core.Path.{refl}
use Rattle.complex.specs.Complex.{conjugate}
use Rattle.complex.proofs.Complex64.conj.Goals as goal

pub returns : goal.returns
unfolding conjugate
returns c = refl
