-- `iq_median::sort_words` sorts from the end on. Assumes nothing.
use Rattle.iq_median.proofs.Lists.{Sorting}
use Rattle.iq_median.proofs.sort_words.Given as goal

abbrev pub invariant-loop-k : goal.invariant-loop-k
invariant-loop-k l = Sorting l.initial.part l.part l.k
