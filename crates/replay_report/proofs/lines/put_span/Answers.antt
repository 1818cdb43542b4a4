-- `replay_report::lines::put_span`: the ring's name, and the span's two numbers. Assumes nothing.
use Rattle.stage_log.specs.View.{stage_of, mark_of}
use Rattle.replay_text.specs.Text.{letters}
use Rattle.replay_text.proofs.laws.PutLaws.{added_as, added_then}
use Rattle.replay_report.proofs.laws.LineLaws.{span_pieces}
use Rattle.replay_report.proofs.lines.put_span.Goals as goal

pub returns : goal.returns
unfolding letters
returns c =
    let a = c.args in
    added_as (span_pieces (stage_of a.stage) (mark_of a.kind) a.s.start a.s.len)
    (added_then
    c.put.ensures
    (added_then c.put_ring.ensures
    (added_then c.put_number.ensures c.put_number-2.ensures)))
