-- `replay_report::lines::put_ring`: the stage's name and the mark's. Assumes nothing.
use Rattle.replay_text.specs.Text.{letters}
use Rattle.replay_text.proofs.laws.PutLaws.{added_then}
use Rattle.replay_report.specs.Lines.{ring_name}
use Rattle.replay_report.proofs.lines.put_ring.Goals as goal

pub returns : goal.returns
unfolding letters ring_name
returns c =
    added_then c.put_stage.ensures
    (added_then c.put.ensures c.put_mark.ensures)
