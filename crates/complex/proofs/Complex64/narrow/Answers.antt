-- `complex::Complex64::narrow` is `narrowed_parts`. Assumes nothing.
use Rattle.complex.specs.Complex.{narrowed_parts}
use Rattle.complex.proofs.Complex64.narrow.Goals as goal

pub returns : goal.returns
unfolding narrowed_parts
returns c = λ i. record { re = c.narrow.ensures i; im = c.narrow-2.ensures i }
