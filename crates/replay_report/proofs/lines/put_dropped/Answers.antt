-- `replay_report::lines::put_dropped`: the two numbers stand one behind the other. Assumes nothing.
use Rattle.replay_text.specs.Text.{letters}
use Rattle.replay_text.proofs.laws.PutLaws.{added_as, added_then}
use Rattle.replay_report.proofs.laws.LineLaws.{dropped_pieces}
use Rattle.replay_report.proofs.lines.put_dropped.Goals as goal

pub returns : goal.returns
unfolding letters
returns c =
    added_as
    (dropped_pieces c.args.spans
    c.args.repairs) (added_then
    c.put_number.ensures c.put_number-2.ensures)
