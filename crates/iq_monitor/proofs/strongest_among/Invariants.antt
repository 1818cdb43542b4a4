-- `iq_monitor::strongest_among` goes over channels that are all eligible. Assumes nothing.
use mathlib.Core.Path.{◌≡◌}
use Prim.Native.Nat.{◌<◌}
use lib.ListN.{length}
use Rattle.rules.specs.Monitor.{channel_at, strongest}
use Rattle.iq_monitor.specs.Observe.{power_at}
use Rattle.iq_monitor.proofs.strongest_among.Given as goal

abbrev pub invariant-loop-k : goal.invariant-loop-k
invariant-loop-k l = (l.best < length l.powers) × (channel_at l.best ≡ strongest (length l.powers) (power_at l.powers) l.k)
