-- `replay_report::lines::put_words`: the level's two words. Assumes nothing.
use Rattle.replay_text.specs.Text.{letters, line}
use Rattle.replay_text.proofs.laws.PutLaws.{added_then}
use Rattle.replay_report.specs.Lines.{level_line}
use Rattle.replay_report.proofs.lines.put_words.Goals as goal

pub returns : goal.returns
unfolding letters line level_line
returns c =
    added_then
    c.put.ensures
    (added_then
    (rw c.to_bits64.ensures at c.put_hex.ensures)
    (added_then c.put-2.ensures
    (added_then
    (rw c.to_bits64-2.ensures at
    c.put_hex-2.ensures) c.put-3.ensures)))
