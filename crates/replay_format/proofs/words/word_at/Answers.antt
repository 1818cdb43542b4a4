-- `replay_format::words::word_at`: eight bytes, each in its place. Assumes nothing.
use native.Mathlib.Omega.{arith}
use Rattle.replay_format.proofs.laws.FormatLaws.{word_by_bytes}
use Rattle.replay_format.proofs.words.word_at.Goals as goal

pub returns : goal.returns
returns c = omega (arith, c.from_le_bytes.ensures, word_by_bytes c.args.bytes.now c.args.k c.requires)
