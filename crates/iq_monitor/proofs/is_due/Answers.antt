-- `iq_monitor::is_due` is `full`. Assumes nothing.
use lib.Dec.{leb}
use Rattle.iq_monitor.specs.Observe.{full}
use Rattle.iq_monitor.proofs.is_due.Goals as goal

pub returns : goal.returns
unfolding full
returns c = λ i. leb (c.window_length.ensures i) (c.saturating_sub.ensures i)
