-- `iq::accepted` is `accepted`. Assumes nothing.
use Rattle.std.proofs.Common.{arith}
use Rattle.std.proofs.lemmas.Grind.{common_steps}
use Rattle.iq.proofs.laws.Tests.{finite_is}
use Rattle.rules.specs.Iq.{accepted}
use Rattle.iq.proofs.accepted.Goals as goal

pub returns-then-is_finite-2 : goal.returns-then-is_finite-2
unfolding accepted
returns-then-is_finite-2 c = grind (arith, common_steps, finite_is)

pub returns-else-is_finite-2 : goal.returns-else-is_finite-2
unfolding accepted
returns-else-is_finite-2 c = grind (arith, common_steps, finite_is)
