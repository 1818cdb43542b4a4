-- `chain_words::put_samples`: count by count. Assumes nothing.
use Rattle.chain_words.specs.Words.{samples_words}
use Rattle.chain_words.proofs.Filling.{Filled}
use Rattle.chain_words.proofs.put_samples.Given as goal

abbrev pub invariant-loop-k : goal.invariant-loop-k
invariant-loop-k l = Filled (samples_words l.fn.log.marks) l.at l.initial.words l.words l.k
