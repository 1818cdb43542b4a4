-- `complex::Complex64::unpack` is `sample_of`. Assumes nothing.
use Rattle.complex.specs.Complex.{sample_of}
use Rattle.complex.proofs.Complex64.unpack.Goals as goal

pub returns : goal.returns
unfolding sample_of
returns c = λ i. record { re = c.widen_bits.ensures i; im = c.widen_bits-2.ensures i }
