-- `replay_format::header::version`: the low byte and the high one. Assumes nothing.
use native.Mathlib.Omega.{arith}
use Rattle.replay_format.specs.Format.{little_endian}
use Rattle.replay_format.proofs.header.version.Goals as goal

pub returns : goal.returns
unfolding little_endian
returns c = omega (arith, c.from.ensures, c.from_le_bytes.ensures)
