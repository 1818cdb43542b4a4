-- `replay_report::put_counts`: the three stages, one behind the other. Assumes nothing.
use Rattle.replay_text.proofs.laws.PutLaws.{added_then}
use Rattle.replay_report.proofs.put_counts.Goals as goal

pub returns : goal.returns
returns c =
    added_then c.put_stage_counts.ensures
    (added_then c.put_stage_counts-2.ensures c.put_stage_counts-3.ensures)
