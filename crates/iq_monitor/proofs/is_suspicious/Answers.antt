-- `iq_monitor::is_suspicious` tests what `suspicious` does, in its order. Assumes nothing.
use native.Mathlib.Omega.{arith}
use Rattle.rules.specs.Monitor.{suspicious}
use Rattle.iq_monitor.proofs.is_suspicious.Goals as goal

pub returns-then-q-floor : goal.returns-then-q-floor
unfolding suspicious
returns-then-q-floor c = grind arith

pub returns-else-q-floor : goal.returns-else-q-floor
unfolding suspicious
returns-else-q-floor c = grind arith
