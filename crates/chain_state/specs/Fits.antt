-- Document 01's number 5, as far as it speaks of a state: its causes in groups, each as a test that a fit state passes. Definitions only.
use Rattle.std.specs.Prelude.{Bool, true, cond, ◌&&◌, ℕ, ◌+◌, min, ltb, leb, eqb, Option, Some, None}
use Rattle.rules.specs.Constants.{counter_limit}
use Rattle.rules.specs.Refusals.{within_limit}
use Rattle.rules.specs.Iq.{Settled, Off, Observing, Withheld, Correcting, accepted}
use Rattle.rules.specs.Impulse.{lookahead_size, next_judged, block_length}
use Rattle.amplitude_limit.specs.Limit.{limited}
use Rattle.stage_log.specs.Check.{ring_fits, log_fits}
use Rattle.impulse.specs.declared.Run.{Run}
use Rattle.impulse.specs.declared.Gate.{Gate}
use Rattle.impulse.specs.declared.ImpulseSuppressor.{ImpulseSuppressor}
use Rattle.impulse_arrays.specs.Fits.{window_held, arrays_fit, sorted_fits}
use Rattle.dc.specs.declared.DcBlocker.{DcBlocker}
use Rattle.iq.specs.View.{settled_of}
use Rattle.iq_monitor.specs.declared.ImageMonitor.{ImageMonitor}
use Rattle.chain_config.specs.Config.{setting_refusal}
use Rattle.chain_state.specs.declared.Settings.{Settings}
use Rattle.chain_state.specs.declared.Counts.{Counts}
use Rattle.chain_state.specs.declared.InputConditioner.{InputConditioner}

-- not: 'a counter > 2^52'
abbrev pub counter : ℕ → Bool
counter k = leb k counter_limit

-- ---- the settings

-- not: 'a setting that making refuses; block length not that of fs'
unfoldable pub settings_fit : Settings → ℕ → Bool
settings_fit s block = eqb (setting_refusal s.fs s.n s.spans s.repairs) 0 && eqb block (block_length s.fs)

-- ---- the counts

abbrev pub applies : InputConditioner → Bool
applies c = c.settings.impulse && c.suppressor.gate.settings.apply

-- 'min(21, received) if impulse applies, else .. 0'
abbrev pub held_by : Bool → ℕ → ℕ
held_by applies seen = cond applies (min lookahead_size seen) 0

-- not: 'released + held ≠ received; held not min(21, received) if impulse applies, else not 0'
unfoldable pub counts_fit : Bool → Counts → Bool
counts_fit applies n =
    counter n.seen && counter n.released && counter n.clamped
    && eqb n.held (held_by applies n.seen)
    && eqb (n.released + n.held) n.seen

-- ---- the impulse stage

-- not: 'open run empty or not ending at the next judged', j
abbrev pub ends_at : Run → ℕ → Bool
ends_at r j = ltb 0 r.len && eqb (r.start + r.len) j

abbrev pub run_fits : Option Run → ℕ → Bool
run_fits None j = true
run_fits (Some r) j = ends_at r j

-- not: 'a .. left part not within 1e18'
abbrev pub left_fits : Option ℕ → Bool
left_fits None = true
left_fits (Some x) = within_limit x

unfoldable pub gate_fits : Gate → Bool
gate_fits g =
    counter g.received && counter g.block.number && counter g.block.flagged
    && run_fits g.mending.run (next_judged g.received)
    && left_fits g.mending.left

-- not: 'when impulse runs, pending ≠ min(21, received), window ≠ min(33, received) or its sorted list not that window sorted'. The stage's own count
-- says what the arrays hold, so it has to be that of the samples seen.
unfoldable pub running_fits : ImpulseSuppressor → ℕ → Bool
running_fits m seen = eqb m.gate.received seen && sorted_fits (window_held m.gate.received) m.window m.sorted

-- the arrays in every mode, and the rest where the stage runs
unfoldable pub suppressor_fits : ImpulseSuppressor → Bool → ℕ → Bool
suppressor_fits m running seen = arrays_fit m.gate.received m.window m.pending && cond running (running_fits m seen) true

-- ---- the other stages

-- not: 'a level .. part not within 1e18'
unfoldable pub blocker_fits : DcBlocker → Bool
blocker_fits b = counter b.n && limited b.dc.re && limited b.dc.im

-- not: 'a coefficient unfit'
abbrev pub coefficient_fits : Settled → Bool
coefficient_fits Off = true
coefficient_fits Observing = true
coefficient_fits Withheld = true
coefficient_fits (Correcting r) = accepted r

-- not: 'a mirror window's first after its end'
abbrev pub begun_fits : Option ℕ → ℕ → Bool
begun_fits None end = true
begun_fits (Some first) end = leb first end

unfoldable pub monitor_fits : ImageMonitor → Bool
monitor_fits m = counter m.end && begun_fits m.first m.end

-- ---- the state

-- not: 'ring count or head out of range', of spans and of repairs
unfoldable pub logs_fit : InputConditioner → Bool
logs_fit c = log_fits c.settings.spans c.notes.log && ring_fits c.settings.repairs c.notes.repairs c.notes.longruns

unfoldable pub stages_fit : InputConditioner → Bool
stages_fit c = blocker_fits c.blocker && coefficient_fits (settled_of c.settings.iq) && monitor_fits c.monitor

-- the settings, the counts and the gate
unfoldable pub front_fits : InputConditioner → Bool
front_fits c =
    settings_fit c.settings c.suppressor.gate.settings.blocklen
    && counts_fit (applies c) c.counts
    && gate_fits c.suppressor.gate

unfoldable pub state_fits : InputConditioner → Bool
state_fits c = front_fits c && suppressor_fits c.suppressor c.settings.impulse c.counts.seen && logs_fit c && stages_fit c
