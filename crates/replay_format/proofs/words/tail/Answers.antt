-- `replay_format::words::tail`: by what is left over of the bytes. Assumes nothing.
use mathlib.Core.Path.{sym}
use Rattle.replay_format.proofs.laws.FormatLaws.{tail_refused, tail_passes}
use Rattle.replay_format.proofs.words.tail.Goals as goal

pub returns-then-bytes-ne0 : goal.returns-then-bytes-ne0
returns-then-bytes-ne0 c = sym (tail_refused _ c.if-bytes-ne0.true)

pub returns : goal.returns
returns c = sym (tail_passes _ c.if-bytes-ne0.false)
