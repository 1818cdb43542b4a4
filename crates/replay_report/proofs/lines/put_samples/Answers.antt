-- `replay_report::lines::put_samples`: the four numbers stand one behind the other, each with its word. Assumes nothing.
use Rattle.replay_text.specs.Text.{letters}
use Rattle.replay_text.proofs.laws.PutLaws.{added_as, added_then}
use Rattle.replay_report.proofs.laws.LineLaws.{samples_pieces}
use Rattle.replay_report.proofs.lines.put_samples.Goals as goal

pub returns : goal.returns
unfolding letters
returns c =
    let a = c.args in
    added_as (samples_pieces a.replaced a.seen a.released a.held)
    (added_then c.put_number.ensures (added_then c.put_number-2.ensures (added_then c.put_number-3.ensures c.put_number-4.ensures)))
