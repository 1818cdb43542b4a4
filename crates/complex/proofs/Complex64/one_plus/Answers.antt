-- `complex::Complex64::one_plus` is `one_plus`, operation by operation. Assumes nothing.
use mathlib.Core.Path.{refl}
use Rattle.complex.specs.Complex.{one_plus}
use Rattle.complex.proofs.Complex64.one_plus.Goals as goal

pub returns : goal.returns
unfolding one_plus
returns c = refl
