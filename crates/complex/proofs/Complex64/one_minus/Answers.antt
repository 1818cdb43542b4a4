-- `complex::Complex64::one_minus` is `one_minus`, operation by operation. Assumes nothing.
use mathlib.Core.Path.{refl}
use Rattle.complex.specs.Complex.{one_minus}
use Rattle.complex.proofs.Complex64.one_minus.Goals as goal

pub returns : goal.returns
unfolding one_minus
returns c = refl
