-- `replay_format::words::read_words`: the words before place k are read, the others as they were. Assumes nothing.
use native.Mathlib.Omega.{arith}
use Rattle.replay_format.proofs.laws.FormatLaws.{reading_start, reading_next, reading_end}
use Rattle.replay_format.proofs.words.read_words.Goals as goal

pub loop-k-init : goal.loop-k-init
loop-k-init c = reading_start _ _ c.requires

pub loop-k-preserved : goal.loop-k-preserved
loop-k-preserved c =
    let l = c.loop-k in
    rw c.word_at.ensures (reading_next c.args.bytes.now c.args.words.now c.requires l.words l.k (omega (arith, l.invariant.same)) l.invariant)

pub returns : goal.returns
returns c = let l = c.loop-k in reading_end _ _ c.requires l.words l.k (omega arith) l.invariant
