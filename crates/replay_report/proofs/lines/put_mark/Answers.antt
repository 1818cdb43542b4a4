-- `replay_report::lines::put_mark`: each mark's name. Assumes nothing.
use Rattle.replay_text.specs.Text.{letters}
use Rattle.replay_report.proofs.lines.put_mark.Goals as goal

pub returns-in-Repaired : goal.returns-in-Repaired
unfolding letters
returns-in-Repaired c = rw c.in-Repaired.is c.put.ensures

pub returns-in-Flagged : goal.returns-in-Flagged
unfolding letters
returns-in-Flagged c = rw c.in-Flagged.is c.put-in-Flagged.ensures

pub returns-in-Corrected : goal.returns-in-Corrected
unfolding letters
returns-in-Corrected c = rw c.in-Corrected.is c.put-in-Corrected.ensures

pub returns-in-Uncertain : goal.returns-in-Uncertain
unfolding letters
returns-in-Uncertain c = rw c.in-Uncertain.is c.put-in-Uncertain.ensures
