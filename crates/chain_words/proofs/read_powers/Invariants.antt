-- `chain_words::read_powers`: word by word. Assumes nothing.
use Rattle.chain_words.specs.States.{powers_in}
use Rattle.chain_words.proofs.Filling.{Made}
use Rattle.chain_words.proofs.read_powers.Given as goal

abbrev pub invariant-loop-k : goal.invariant-loop-k
invariant-loop-k l = Made (powers_in l.at l.words) l.power-items l.k
