-- `complex::Complex32::unpack` is `sample_of`. Assumes nothing.
use Rattle.complex.specs.Complex.{sample_of}
use Rattle.complex.proofs.Complex32.unpack.Goals as goal

pub returns : goal.returns
unfolding sample_of
returns c = λ i. record { re = c.from_bits32.ensures i; im = c.from_bits32-2.ensures i }
