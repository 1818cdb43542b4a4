-- A state as words: the numbers of each part in order, then the arrays, then the log. Definitions only.
use Rattle.std.specs.Prelude.{Bool, cond, List, [], ◌∷◌, ◌++◌, map, ℕ, Float, Option, Some, None}
use Rattle.std.specs.Float.{binary32, binary64}
use Rattle.std.specs.Float.Ieee.{to_bits}
use Rattle.stage_mode.specs.declared.StageMode.{StageMode}
use Rattle.stage_mode.specs.declared.StageMode.TheVariants as mode
use Rattle.impulse_pause.specs.View.{number_of}
use Rattle.stage_log.specs.declared.Ring.{Ring}
use Rattle.stage_log.specs.declared.Marks.{Marks}
use Rattle.stage_log.specs.declared.Log.{Log}
use Rattle.stage_log.specs.declared.Notes.{Notes}
use Rattle.impulse.specs.declared.Run.{Run}
use Rattle.impulse.specs.declared.GateSettings.{GateSettings}
use Rattle.impulse.specs.declared.Mending.{Mending}
use Rattle.impulse.specs.declared.Block.{Block}
use Rattle.impulse.specs.declared.Gate.{Gate}
use Rattle.impulse.specs.declared.ImpulseSuppressor.{ImpulseSuppressor}
use Rattle.dc.specs.declared.DcBlocker.{DcBlocker}
use Rattle.iq.specs.declared.Iq.{Iq}
use Rattle.iq.specs.declared.Iq.TheVariants as iq
use Rattle.iq_monitor.specs.declared.ImageMonitor.{ImageMonitor}
use Rattle.chain_state.specs.declared.Settings.{Settings}
use Rattle.chain_state.specs.declared.Counts.{Counts}
use Rattle.chain_state.specs.declared.InputConditioner.{InputConditioner}

-- ---- one word

abbrev pub flag_word : Bool → ℕ
flag_word b = cond b 1 0

abbrev pub power_word : Float → ℕ
power_word x = to_bits binary32 x

abbrev pub mode_word : StageMode → ℕ
mode_word mode.Off = 0
mode_word mode.Observe = 1
mode_word mode.Apply = 2

-- ---- enums: a tag, and numbers that are 0 where the variant has none

abbrev pub iq_parts : Iq → ℕ × ℕ × ℕ
iq_parts iq.Off = (0, 0, 0)
iq_parts iq.Observing = (1, 0, 0)
iq_parts (iq.Correcting rho) = (2, to_bits binary64 rho.re, to_bits binary64 rho.im)
iq_parts iq.Withheld = (3, 0, 0)

abbrev pub iq_words : Iq → List ℕ
iq_words q = let p = iq_parts q in p.0 ∷ p.1 ∷ p.2 ∷ []

abbrev pub run_parts : Option Run → ℕ × ℕ × ℕ × ℕ
run_parts None = (0, 0, 0, 0)
run_parts (Some r) = (1, r.start, r.len, flag_word r.paused)

abbrev pub run_words : Option Run → List ℕ
run_words o = let p = run_parts o in p.0 ∷ p.1 ∷ p.2 ∷ p.3 ∷ []

abbrev pub option_parts : Option ℕ → ℕ × ℕ
option_parts None = (0, 0)
option_parts (Some x) = (1, x)

abbrev pub option_words : Option ℕ → List ℕ
option_words o = let p = option_parts o in p.0 ∷ p.1 ∷ []

-- ---- the numbers of each part

abbrev pub settings_words : Settings → List ℕ
settings_words s =
    to_bits binary64 s.fs ∷ s.n ∷ s.spans ∷ s.repairs ∷ flag_word s.impulse ∷ mode_word s.dc ∷ iq_words s.iq

abbrev pub gate_settings_words : GateSettings → List ℕ
gate_settings_words s = flag_word s.apply ∷ number_of s.edition ∷ s.blocklen ∷ []

abbrev pub mending_words : Mending → List ℕ
mending_words m = run_words m.run ++ option_words m.left

abbrev pub block_words : Block → List ℕ
block_words b = b.number ∷ b.flagged ∷ flag_word b.paused ∷ []

abbrev pub gate_words : Gate → List ℕ
gate_words g = gate_settings_words g.settings ++ (g.received ∷ mending_words g.mending ++ block_words g.block)

abbrev pub blocker_words : DcBlocker → List ℕ
blocker_words b = to_bits binary64 b.a ∷ b.n ∷ to_bits binary64 b.dc.re ∷ to_bits binary64 b.dc.im ∷ []

abbrev pub monitor_words : ImageMonitor → List ℕ
monitor_words m = option_words m.first ++ (m.end ∷ [])

abbrev pub counts_words : Counts → List ℕ
counts_words c = c.seen ∷ c.released ∷ c.held ∷ c.clamped ∷ []

abbrev pub ring_words : Ring → List ℕ
ring_words r = r.head ∷ r.count ∷ r.dropped ∷ []

-- the log comes last
abbrev pub notes_words : Notes → List ℕ
notes_words n = ring_words n.repairs ++ (n.longruns ∷ [])

-- ---- the arrays and the log

abbrev pub powers_words : List Float → List ℕ
powers_words xs = map power_word xs

abbrev pub arrays_words : ImpulseSuppressor → List ℕ
arrays_words m = powers_words m.window ++ (powers_words m.sorted ++ m.pending)

unfoldable pub rings_words : List Marks → List ℕ
rings_words [] = []
rings_words (m ∷ ms) = m.ring.head ∷ m.ring.count ∷ m.ring.dropped ∷ rings_words ms

abbrev pub samples_words : List Marks → List ℕ
samples_words ms = map (λ (m : Marks). m.samples) ms

-- the rings, and then the counts
abbrev pub log_words : Log → List ℕ
log_words l = rings_words l.marks ++ samples_words l.marks

-- ---- the state

-- its numbers: the settings, the gate and the DC blocker; then the monitor, the counts and the notes
abbrev pub stage_words : InputConditioner → List ℕ
stage_words s = settings_words s.settings ++ (gate_words s.suppressor.gate ++ blocker_words s.blocker)

abbrev pub counter_words : InputConditioner → List ℕ
counter_words s = monitor_words s.monitor ++ (counts_words s.counts ++ notes_words s.notes)

unfoldable pub words_of : InputConditioner → List ℕ
words_of s = stage_words s ++ (counter_words s ++ (arrays_words s.suppressor ++ log_words s.notes.log))
