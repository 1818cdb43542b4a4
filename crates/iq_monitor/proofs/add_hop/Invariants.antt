-- `iq_monitor::add_hop` goes over the channels from 1 on and their mirrors. Assumes nothing.
use mathlib.Core.Path.{◌≡◌}
use Rattle.iq_monitor.proofs.Pairs.{paired}
use Rattle.iq_monitor.proofs.add_hop.Given as goal

abbrev pub invariant-loop-k : goal.invariant-loop-k
invariant-loop-k l = l.words ≡ paired l.x l.initial.words l.k
