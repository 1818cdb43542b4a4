-- `replay_report::lines::put_settled`: each line of what IQ settled. Assumes nothing.
use Rattle.replay_text.specs.Text.{letters, line}
use Rattle.replay_report.specs.Lines.{settled_line}
use Rattle.replay_report.proofs.lines.put_settled.Goals as goal

pub returns-in-Off : goal.returns-in-Off
unfolding letters line settled_line
returns-in-Off c = rw c.in-Off.is c.put.ensures

pub returns-in-Observing : goal.returns-in-Observing
unfolding letters line settled_line
returns-in-Observing c = rw c.in-Observing.is c.put-in-Observing.ensures

pub returns-in-Correcting : goal.returns-in-Correcting
unfolding letters line settled_line
returns-in-Correcting c = rw c.in-Correcting.is c.put-in-Correcting.ensures

pub returns-in-Withheld : goal.returns-in-Withheld
unfolding letters line settled_line
returns-in-Withheld c = rw c.in-Withheld.is c.put-in-Withheld.ensures
