-- `replay_report::put_spans`: the three stages, one behind the other. Assumes nothing.
use Rattle.replay_text.proofs.laws.PutLaws.{added_then}
use Rattle.replay_report.proofs.put_spans.Goals as goal

pub returns : goal.returns
returns c =
    added_then c.put_stage_spans.ensures
    (added_then c.put_stage_spans-2.ensures c.put_stage_spans-3.ensures)
