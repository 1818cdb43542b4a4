-- What a state that fits keeps to. Assumes nothing.
use Rattle.std.specs.Prelude.{◌≡◌, Bool, true, cond, ◌&&◌, ℕ, ◌+◌, ◌^◌, ◌≤◌, ◌<◌, ltb, eqb, Option, Some, None}
use Rattle.std.proofs.Common.{sym, ap, ◌∙◌, subst, arith, leb-true, eqb-true}
use Rattle.rules.proofs.laws.TestLaws.{both}
use Rattle.rules.specs.Impulse.{block_length, next_judged}
use Rattle.amplitude_limit.specs.Limit.{limited}
use Rattle.stage_log.specs.Check.{ring_fits, log_fits}
use Rattle.impulse.specs.declared.Run.{Run}
use Rattle.impulse.specs.declared.Gate.{Gate}
use Rattle.impulse.specs.declared.ImpulseSuppressor.{ImpulseSuppressor}
use Rattle.impulse.specs.Room.{run_end}
use Rattle.impulse_arrays.specs.Fits.{window_held, arrays_fit, sorted_fits}
use Rattle.impulse_arrays.proofs.laws.FitsLaws.{ArraysFit, arrays_fit_lem}
use Rattle.dc.specs.declared.DcBlocker.{DcBlocker}
use Rattle.iq.specs.View.{settled_of}
use Rattle.iq_monitor.specs.declared.ImageMonitor.{ImageMonitor}
use Rattle.chain_config.specs.Config.{setting_refusal}
use Rattle.chain_config.proofs.laws.ConfigLaws.{Limits, setting_limits}
use Rattle.chain_state.specs.declared.Settings.{Settings}
use Rattle.chain_state.specs.declared.Counts.{Counts}
use Rattle.chain_state.specs.declared.InputConditioner.{InputConditioner}
use Rattle.chain_state.specs.Fits.{counter, settings_fit, applies, held_by, counts_fit, run_fits, left_fits, gate_fits, running_fits, suppressor_fits}
use Rattle.chain_state.specs.Fits.{blocker_fits, coefficient_fits, begun_fits, monitor_fits, logs_fit, stages_fit, front_fits, state_fits}
use Rattle.chain_state.proofs.laws.Blocks.{block_some}

pub three : (a b c : Bool) → (a && b && c) ≡ true → (a ≡ true) × (b ≡ true) × (c ≡ true)
three a b c e = let p = both (a && b) c e in let q = both a b p.0 in (q.0, q.1, p.1)

pub four : (a b c d : Bool) → (a && b && c && d) ≡ true → (a ≡ true) × (b ≡ true) × (c ≡ true) × (d ≡ true)
four a b c d e = let p = both (a && b && c) d e in let q = three a b c p.0 in (q.0, q.1, q.2, p.1)

-- ---- each group

pub record SettingsFit (s : Settings) (b : ℕ) : Type 0 where
  pub limits : Limits s.fs s.n s.spans s.repairs
  pub block : b ≡ block_length s.fs
  pub blocks : 0 < b

pub settings_fit_lem : (s : Settings) (block : ℕ) → settings_fit s block ≡ true → SettingsFit s block
unfolding settings_fit
settings_fit_lem s block e =
    let p = both (eqb (setting_refusal s.fs s.n s.spans s.repairs) 0) (eqb block (block_length s.fs)) e in
    let l = setting_limits s.fs s.n s.spans s.repairs p.0 in
    let b = eqb-true block (block_length s.fs) p.1 in
    record { limits = l; block = b; blocks = subst (λ (k : ℕ). 0 < k) (sym b) (block_some s.fs l.rate) }

pub record CountsFit (a : Bool) (n : Counts) : Type 0 where
  pub seen : n.seen ≤ 2 ^ 52
  pub released : n.released ≤ 2 ^ 52
  pub clamped : n.clamped ≤ 2 ^ 52
  pub held : n.held ≡ held_by a n.seen
  pub sum : n.released + n.held ≡ n.seen

pub counts_fit_lem : (a : Bool) (n : Counts) → counts_fit a n ≡ true → CountsFit a n
unfolding counts_fit
counts_fit_lem a n e =
    let p = three (counter n.seen && counter n.released && counter n.clamped) (eqb n.held (held_by a n.seen))
    (eqb (n.released + n.held) n.seen) e in
    let q = three (counter n.seen) (counter n.released) (counter n.clamped) p.0 in
    record {
      seen = leb-true _ _ q.0;
      released = leb-true _ _ q.1;
      clamped = leb-true _ _ q.2;
      held = eqb-true _ _ p.1;
      sum = eqb-true _ _ p.2;
    }

run_end_lem : (run : Option Run) (j : ℕ) → run_fits run j ≡ true → run_end run ≤ j
run_end_lem None j e = omega arith
run_end_lem (Some r) j e =
    let q = eqb-true (r.start + r.len) j (both (ltb 0 r.len) (eqb (r.start + r.len) j) e).1 in
    omega arith

pub record GateFits (g : Gate) : Type 0 where
  pub received : g.received ≤ 2 ^ 52
  pub block : g.block.number ≤ 2 ^ 52
  pub flagged : g.block.flagged ≤ 2 ^ 52
  pub open_run : run_fits g.mending.run (next_judged g.received) ≡ true
  pub run : run_end g.mending.run ≤ g.received
  pub left : left_fits g.mending.left ≡ true

pub gate_fits_lem : (g : Gate) → gate_fits g ≡ true → GateFits g
unfolding gate_fits
gate_fits_lem g e =
    let r = run_fits g.mending.run (next_judged g.received) in
    let p = both (counter g.received && counter g.block.number && counter g.block.flagged && r) (left_fits g.mending.left) e in
    let q = four (counter g.received) (counter g.block.number) (counter g.block.flagged) r p.0 in
    let h : run_end g.mending.run ≤ next_judged g.received = run_end_lem g.mending.run (next_judged g.received) q.3 in
    record {
      received = leb-true _ _ q.0;
      block = leb-true _ _ q.1;
      flagged = leb-true _ _ q.2;
      open_run = q.3;
      run = omega arith;
      left = p.1;
    }

pub record RunningFits (m : ImpulseSuppressor) (seen : ℕ) : Type 0 where
  pub received : m.gate.received ≡ seen
  pub sorted : sorted_fits (window_held m.gate.received) m.window m.sorted ≡ true

pub running_fits_lem : (m : ImpulseSuppressor) (seen : ℕ) → running_fits m seen ≡ true → RunningFits m seen
unfolding running_fits
running_fits_lem m seen e =
    let p = both (eqb m.gate.received seen) (sorted_fits (window_held m.gate.received) m.window m.sorted) e in
    record { received = eqb-true _ _ p.0; sorted = p.1 }

pub record SuppressorFits (m : ImpulseSuppressor) (running : Bool) (seen : ℕ) : Type 0 where
  pub arrays : ArraysFit m.gate.received m.window m.pending
  pub runs : running ≡ true → RunningFits m seen

pub suppressor_fits_lem : (m : ImpulseSuppressor) (running : Bool) (seen : ℕ) → suppressor_fits m running seen ≡ true → SuppressorFits m running seen
unfolding suppressor_fits
suppressor_fits_lem m running seen e =
    let p = both (arrays_fit m.gate.received m.window m.pending) (cond running (running_fits m seen) true) e in
    record {
      arrays = arrays_fit_lem m.gate.received m.window m.pending p.0;
      runs = λ h. running_fits_lem m seen (sym (ap (λ (b : Bool). cond b (running_fits m seen) true) h) ∙ p.1);
    }

pub record BlockerFits (b : DcBlocker) : Type 0 where
  pub updates : b.n ≤ 2 ^ 52
  pub re : limited b.dc.re ≡ true
  pub im : limited b.dc.im ≡ true

pub blocker_fits_lem : (b : DcBlocker) → blocker_fits b ≡ true → BlockerFits b
unfolding blocker_fits
blocker_fits_lem b e =
    let p = three (counter b.n) (limited b.dc.re) (limited b.dc.im) e in
    record { updates = leb-true _ _ p.0; re = p.1; im = p.2 }

pub record MonitorFits (m : ImageMonitor) : Type 0 where
  pub last : m.end ≤ 2 ^ 52
  pub first : begun_fits m.first m.end ≡ true

pub monitor_fits_lem : (m : ImageMonitor) → monitor_fits m ≡ true → MonitorFits m
unfolding monitor_fits
monitor_fits_lem m e =
    let p = both (counter m.end) (begun_fits m.first m.end) e in
    record { last = leb-true _ _ p.0; first = p.1 }

-- ---- the state by its groups

pub record Groups (c : InputConditioner) : Type 0 where
  pub settings : SettingsFit c.settings c.suppressor.gate.settings.blocklen
  pub counts : CountsFit (applies c) c.counts
  pub gate : GateFits c.suppressor.gate
  pub suppressor : SuppressorFits c.suppressor c.settings.impulse c.counts.seen
  pub log : log_fits c.settings.spans c.notes.log ≡ true
  pub repairs : ring_fits c.settings.repairs c.notes.repairs c.notes.longruns ≡ true
  pub blocker : BlockerFits c.blocker
  pub coefficient : coefficient_fits (settled_of c.settings.iq) ≡ true
  pub monitor : MonitorFits c.monitor

module _ (c : InputConditioner) where
  front : front_fits c ≡ true
      → (settings_fit c.settings c.suppressor.gate.settings.blocklen ≡ true) × (counts_fit (applies c) c.counts ≡ true)
      × (gate_fits c.suppressor.gate ≡ true)
  unfolding front_fits
  front e =
      three (settings_fit c.settings c.suppressor.gate.settings.blocklen) (counts_fit (applies c) c.counts) (gate_fits c.suppressor.gate) e

  logs : logs_fit c ≡ true
      → (log_fits c.settings.spans c.notes.log ≡ true) × (ring_fits c.settings.repairs c.notes.repairs c.notes.longruns ≡ true)
  unfolding logs_fit
  logs e = both (log_fits c.settings.spans c.notes.log) (ring_fits c.settings.repairs c.notes.repairs c.notes.longruns) e

  stages : stages_fit c ≡ true → (blocker_fits c.blocker ≡ true) × (coefficient_fits (settled_of c.settings.iq) ≡ true) × (monitor_fits c.monitor ≡ true)
  unfolding stages_fit
  stages e = three (blocker_fits c.blocker) (coefficient_fits (settled_of c.settings.iq)) (monitor_fits c.monitor) e

  parts : state_fits c ≡ true
      → (front_fits c ≡ true) × (suppressor_fits c.suppressor c.settings.impulse c.counts.seen ≡ true) × (logs_fit c ≡ true) × (stages_fit c ≡ true)
  unfolding state_fits
  parts e = four (front_fits c) (suppressor_fits c.suppressor c.settings.impulse c.counts.seen) (logs_fit c) (stages_fit c) e

  pub state_groups : state_fits c ≡ true → Groups c
  state_groups e =
      let p = parts e in
      let f = front p.0 in
      let l = logs p.2 in
      let t = stages p.3 in
      record {
        settings = settings_fit_lem c.settings c.suppressor.gate.settings.blocklen f.0;
        counts = counts_fit_lem (applies c) c.counts f.1;
        gate = gate_fits_lem c.suppressor.gate f.2;
        suppressor = suppressor_fits_lem c.suppressor c.settings.impulse c.counts.seen p.1;
        log = l.0;
        repairs = l.1;
        blocker = blocker_fits_lem c.blocker t.0;
        coefficient = t.1;
        monitor = monitor_fits_lem c.monitor t.2;
      }

-- what callers ask
pub record Fit (c : InputConditioner) : Type 0 where
  pub settings : Limits c.settings.fs c.settings.n c.settings.spans c.settings.repairs
  pub block : c.suppressor.gate.settings.blocklen ≡ block_length c.settings.fs
  pub blocks : 0 < c.suppressor.gate.settings.blocklen
  pub seen : c.counts.seen ≤ 2 ^ 52
  pub released : c.counts.released ≤ 2 ^ 52
  pub clamped : c.counts.clamped ≤ 2 ^ 52
  pub held : c.counts.held ≡ held_by (applies c) c.counts.seen
  pub sum : c.counts.released + c.counts.held ≡ c.counts.seen
  pub flags : c.suppressor.gate.block.flagged ≤ 2 ^ 52
  pub received : c.suppressor.gate.received ≤ 2 ^ 52
  pub run : run_end c.suppressor.gate.mending.run ≤ c.suppressor.gate.received
  pub runs : c.settings.impulse ≡ true → c.suppressor.gate.received ≡ c.counts.seen
  pub log : log_fits c.settings.spans c.notes.log ≡ true
  pub repairs : ring_fits c.settings.repairs c.notes.repairs c.notes.longruns ≡ true
  pub updates : c.blocker.n ≤ 2 ^ 52
  pub last : c.monitor.end ≤ 2 ^ 52
  pub first : begun_fits c.monitor.first c.monitor.end ≡ true

pub groups_fit : (c : InputConditioner) → Groups c → Fit c
groups_fit c g =
    record {
      settings = g.settings.limits;
      block = g.settings.block;
      blocks = g.settings.blocks;
      seen = g.counts.seen;
      released = g.counts.released;
      clamped = g.counts.clamped;
      held = g.counts.held;
      sum = g.counts.sum;
      flags = g.gate.flagged;
      received = g.gate.received;
      run = g.gate.run;
      runs = λ h. (g.suppressor.runs h).received;
      log = g.log;
      repairs = g.repairs;
      updates = g.blocker.updates;
      last = g.monitor.last;
      first = g.monitor.first;
    }

pub state_fit : (c : InputConditioner) → state_fits c ≡ true → Fit c
state_fit c e = groups_fit c (state_groups c e)
