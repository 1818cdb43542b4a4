-- `replay_format::words::read_words`: the words before place k are read, the others as they were. Assumes nothing.
use Rattle.replay_format.proofs.laws.FormatLaws.{Reading}
use Rattle.replay_format.proofs.words.read_words.Given as goal

abbrev pub invariant-loop-k : goal.invariant-loop-k
invariant-loop-k l = Reading l.bytes l.initial.words l.words l.k
