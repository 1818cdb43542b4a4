-- `chain_words::read_log`: ring by ring. Assumes nothing.
use lib.ListN.{drop}
use Rattle.chain_words.specs.States.{marks_in}
use Rattle.chain_words.specs.Places as place
use Rattle.chain_words.proofs.Filling.{Made}
use Rattle.chain_words.proofs.read_log.Given as goal

abbrev pub invariant-loop-k : goal.invariant-loop-k
invariant-loop-k l = Made (marks_in 12 (drop place.rings l.words) (drop place.counts l.words)) l.ring-items l.k
