-- `iq::finite_positive` is `finite_positive`. Assumes nothing.
use Rattle.std.proofs.Common.{arith}
use Rattle.std.proofs.lemmas.Grind.{common_steps}
use Rattle.iq.proofs.laws.Tests.{finite_is}
use Rattle.iq.proofs.finite_positive.Goals as goal

pub returns-then-is_finite : goal.returns-then-is_finite
returns-then-is_finite c = grind (arith, common_steps, finite_is)

pub returns-else-is_finite : goal.returns-else-is_finite
returns-else-is_finite c = grind (arith, common_steps, finite_is)
