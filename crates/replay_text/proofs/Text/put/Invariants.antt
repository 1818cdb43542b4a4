-- `replay_text::Text::put`: the bytes before the loop's place stand behind the text.
use Rattle.std.proofs.Common.{take}
use Rattle.replay_text.specs.Text.{Added}
use Rattle.replay_text.proofs.Text.put.Given as goal

abbrev pub invariant-loop-b : goal.invariant-loop-b
invariant-loop-b l = Added l.initial.self (take l.b-index l.bytes) l.self
