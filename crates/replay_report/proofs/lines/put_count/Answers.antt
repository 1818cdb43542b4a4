-- `replay_report::lines::put_count`: nothing where the count is 0, else the ring's name and the count. Assumes nothing.
use borrow.Author.Tests.{eq-eqb, ne_eqb}
use Rattle.replay_text.specs.Text.{letters, line}
use Rattle.replay_text.proofs.laws.PutLaws.{added_none, added_then}
use Rattle.replay_report.specs.Lines.{count_line}
use Rattle.replay_report.proofs.lines.put_count.Goals as goal

pub returns-then-count-eq0 : goal.returns-then-count-eq0
unfolding count_line
returns-then-count-eq0 c = rw (eq-eqb _ 0 c.if-count-eq0.true) (added_none _)

pub returns : goal.returns
unfolding letters line count_line
returns c =
    rw (ne_eqb _ 0 c.if-count-eq0.false)
    (added_then c.put.ensures
    (added_then c.put_ring.ensures c.put_number.ensures))
