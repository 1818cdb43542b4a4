-- `replay_text::Text::put_number`: the texts stand one behind the other.
use Rattle.replay_text.proofs.laws.PutLaws.{added_then}
use Rattle.replay_text.proofs.Text.put_number.Goals as goal

pub returns : goal.returns
returns c = added_then c.put.ensures (added_then c.put_decimal.ensures c.put_byte.ensures)
