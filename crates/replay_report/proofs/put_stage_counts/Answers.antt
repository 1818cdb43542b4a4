-- `replay_report::put_stage_counts`: the four marks, one behind the other. Assumes nothing.
use Rattle.replay_text.specs.Text.{each}
use Rattle.replay_text.proofs.laws.PutLaws.{added_then, added_last}
use Rattle.replay_report.proofs.put_stage_counts.Goals as goal

pub returns : goal.returns
unfolding each
returns c =
    added_then c.put_count_of.ensures
    (added_then c.put_count_of-2.ensures
    (added_then c.put_count_of-3.ensures (added_last c.put_count_of-4.ensures)))
