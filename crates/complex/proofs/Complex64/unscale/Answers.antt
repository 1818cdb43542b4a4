-- `complex::Complex64::unscale` is `unscaled`, operation by operation. Assumes nothing.
use mathlib.Core.Path.{refl}
use Rattle.complex.specs.Complex.{unscaled}
use Rattle.complex.proofs.Complex64.unscale.Goals as goal

pub returns : goal.returns
unfolding unscaled
returns c = refl
