-- `div` of `complex::Complex64` is `quotient`, operation by operation. Assumes nothing.
use Rattle.complex.specs.Complex.{quotient}
use Rattle.complex.proofs.Complex64Div.div.Goals as goal

pub returns : goal.returns
unfolding quotient
returns c = simp c.norm_sqr-p.ensures
