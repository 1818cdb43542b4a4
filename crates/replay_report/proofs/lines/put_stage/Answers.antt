-- `replay_report::lines::put_stage`: each stage's name. Assumes nothing.
use Rattle.replay_text.specs.Text.{letters}
use Rattle.replay_report.proofs.lines.put_stage.Goals as goal

pub returns-in-Impulse : goal.returns-in-Impulse
unfolding letters
returns-in-Impulse c = rw c.in-Impulse.is c.put.ensures

pub returns-in-Dc : goal.returns-in-Dc
unfolding letters
returns-in-Dc c = rw c.in-Dc.is c.put-in-Dc.ensures

pub returns-in-Iq : goal.returns-in-Iq
unfolding letters
returns-in-Iq c = rw c.in-Iq.is c.put-in-Iq.ensures
