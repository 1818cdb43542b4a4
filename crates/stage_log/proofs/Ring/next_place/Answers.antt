-- `stage_log::Ring::next_place` meets its contract. Assumes nothing.
use mathlib.Core.Path.{refl}
use Prim.Native.Nat.{◌+◌}
use native.Mathlib.Nat.{mod-lt}
use native.Mathlib.Omega.{arith}
use Rattle.stage_log.proofs.Ring.next_place.Goals as goal

pub returns : goal.returns
returns c = (refl, mod-lt (c.args.self.head + c.args.self.count) (omega (arith, c.requires.0)))
