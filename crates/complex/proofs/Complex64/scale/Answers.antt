-- `complex::Complex64::scale` is `scaled`, operation by operation. Assumes nothing.
use mathlib.Core.Path.{refl}
use Rattle.complex.specs.Complex.{scaled}
use Rattle.complex.proofs.Complex64.scale.Goals as goal

pub returns : goal.returns
unfolding scaled
returns c = refl
