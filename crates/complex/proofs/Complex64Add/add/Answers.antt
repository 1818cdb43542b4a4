-- `add` of `complex::Complex64` is `sum`, operation by operation. Assumes nothing.
use mathlib.Core.Path.{refl}
use Rattle.complex.specs.Complex.{sum}
use Rattle.complex.proofs.Complex64Add.add.Goals as goal

pub returns : goal.returns
unfolding sum
returns c = refl
