-- `complex::Complex32::widen` keeps both parts. Assumes nothing.
use Rattle.complex.proofs.Complex32.widen.Goals as goal

pub returns : goal.returns
returns c = λ i. record { re = c.widen.ensures i; im = c.widen-2.ensures i }
