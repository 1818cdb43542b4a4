-- `complex::Complex32::pack` is `word_of`. Assumes nothing.
use Rattle.complex.specs.Complex.{word_of}
use Rattle.complex.proofs.Complex32.pack.Goals as goal

pub returns : goal.returns
unfolding word_of
returns c = cc
