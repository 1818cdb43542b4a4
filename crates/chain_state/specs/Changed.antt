-- A state with some of its parts changed, each operation's by name. Definitions only.
use Rattle.stage_log.specs.declared.Log.{Log}
use Rattle.stage_log.specs.declared.Notes.{Notes}
use Rattle.stage_log.specs.View.{with_log}
use Rattle.impulse.specs.declared.ImpulseSuppressor.{ImpulseSuppressor}
use Rattle.dc.specs.declared.DcBlocker.{DcBlocker}
use Rattle.iq_monitor.specs.declared.ImageMonitor.{ImageMonitor}
use Rattle.chain_state.specs.declared.Counts.{Counts}
use Rattle.chain_state.specs.declared.InputConditioner.{InputConditioner}

-- what a call changes
abbrev pub after_call : InputConditioner → Counts → ImpulseSuppressor → DcBlocker → Notes → InputConditioner
after_call c n s b t = record { settings = c.settings; counts = n; suppressor = s; blocker = b; monitor = c.monitor; notes = t }

-- what a hop changes: the monitor, and the rings of spans
abbrev pub after_hop : InputConditioner → ImageMonitor → Log → InputConditioner
after_hop c m l =
    record { settings = c.settings; counts = c.counts; suppressor = c.suppressor; blocker = c.blocker; monitor = m; notes = with_log c.notes l }
