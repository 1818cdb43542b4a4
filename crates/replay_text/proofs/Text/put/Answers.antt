-- `replay_text::Text::put`: the bytes before the loop's place stand behind the text.
use Rattle.std.proofs.Common.{ℕ, add-one}
use Rattle.std.proofs.Math.Seq.{take-suc}
use Rattle.replay_text.proofs.laws.PutLaws.{added_none, added_then}
use Rattle.replay_text.proofs.Text.put.Goals as goal

pub loop-b-init : goal.loop-b-init
loop-b-init c = added_none _

pub loop-b-preserved : goal.loop-b-preserved
loop-b-preserved c =
    let l = c.loop-b in
    rw (add-one l.b-index, take-suc {A = ℕ} _ l.b-index 0 c.loop-b-test.true) (added_then l.invariant c.put_byte.ensures)
