-- `replay_report::put_level`: no level, or its two words. Assumes nothing.
use Rattle.replay_text.specs.Text.{letters, line}
use Rattle.replay_report.specs.Lines.{level_line}
use Rattle.replay_report.proofs.put_level.Goals as goal

pub returns-in-None : goal.returns-in-None
unfolding letters line level_line
returns-in-None c = rw c.in-None.is c.put.ensures

pub returns-in-Some : goal.returns-in-Some
returns-in-Some c = rw c.in-Some.is c.put_words.ensures
