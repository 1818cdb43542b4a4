-- `ImageMonitor::window_length` is `window_length`. Assumes nothing.
use native.Mathlib.Omega.{arith}
use Rattle.rules.specs.Monitor.{window_length}
use Rattle.iq_monitor.proofs.ImageMonitor.window_length.Goals as goal

pub returns : goal.returns
unfolding window_length
returns c = omega (arith, c.max.ensures, c.ceiling.ensures)
