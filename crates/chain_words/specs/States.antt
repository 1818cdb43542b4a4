-- The state that words say; any words say one. Definitions only.
use Rattle.std.specs.Prelude.{Bool, cond, not, List, [], ◌∷◌, map, ℕ, zero, suc, ◌+◌, ◌%◌, ◌^◌, eqb, get_or, take, drop, Float, Option, Some, None}
use Rattle.std.specs.Float.{binary32, binary64}
use Rattle.std.specs.Float.Ieee.{of_bits}
use Rattle.complex.specs.declared.Complex64.{Complex64}
use Rattle.stage_mode.specs.declared.StageMode.{StageMode}
use Rattle.stage_mode.specs.declared.StageMode.TheVariants as mode
use Rattle.impulse_pause.specs.View.{numbered}
use Rattle.stage_log.specs.declared.Ring.{Ring}
use Rattle.stage_log.specs.declared.Marks.{Marks}
use Rattle.stage_log.specs.declared.Log.{Log}
use Rattle.stage_log.specs.declared.Notes.{Notes}
use Rattle.impulse.specs.declared.Run.{Run}
use Rattle.impulse.specs.declared.GateSettings.{GateSettings}
use Rattle.impulse.specs.declared.Mending.{Mending}
use Rattle.impulse.specs.declared.Block.{Block}
use Rattle.impulse.specs.declared.Gate.{Gate}
use Rattle.impulse.specs.declared.ImpulseSuppressor.{ImpulseSuppressor}
use Rattle.dc.specs.declared.DcBlocker.{DcBlocker}
use Rattle.iq.specs.declared.Iq.{Iq}
use Rattle.iq.specs.declared.Iq.TheVariants as iq
use Rattle.iq_monitor.specs.declared.ImageMonitor.{ImageMonitor}
use Rattle.rules.specs.Impulse.{window_size, lookahead_size}
use Rattle.chain_state.specs.declared.Settings.{Settings}
use Rattle.chain_state.specs.declared.Counts.{Counts}
use Rattle.chain_state.specs.declared.InputConditioner.{InputConditioner}
use Rattle.chain_words.specs.Places as place

-- ---- one word

abbrev pub word : List ℕ → ℕ → ℕ
word ws k = get_or ws k 0

-- every word but 0 is true
abbrev pub flag_of : ℕ → Bool
flag_of w = not (eqb w 0)

-- of the low half
abbrev pub power_of : ℕ → Float
power_of w = of_bits binary32 (w % 2 ^ 32)

-- 2 and above apply
abbrev pub mode_at : ℕ → StageMode
mode_at w = cond (eqb w 0) mode.Off (cond (eqb w 1) mode.Observe mode.Apply)

-- ---- enums

abbrev pub complex_at : ℕ → ℕ → Complex64
complex_at re im = record { re = of_bits binary64 re; im = of_bits binary64 im }

-- 3 and above withhold
abbrev pub iq_at : ℕ → ℕ → ℕ → Iq
iq_at w re im =
    cond (eqb w 0) iq.Off
    (cond (eqb w 1) iq.Observing
    (cond (eqb w 2) (iq.Correcting (complex_at re im)) iq.Withheld))

-- every tag but 0 says that there is one, here and below
abbrev pub run_at : ℕ → ℕ → ℕ → ℕ → Option Run
run_at w start len paused = cond (eqb w 0) None (Some (record { start = start; len = len; paused = flag_of paused }))

abbrev pub option_at : ℕ → ℕ → Option ℕ
option_at w x = cond (eqb w 0) None (Some x)

-- ---- the numbers of each part

abbrev pub settings_in : List ℕ → Settings
settings_in ws =
    record {
      fs = of_bits binary64 (word ws place.rate);
      n = word ws place.channels;
      spans = word ws place.span_capacity;
      repairs = word ws place.repair_capacity;
      impulse = flag_of (word ws place.impulse);
      dc = mode_at (word ws place.dc);
      iq = iq_at (word ws place.iq) (word ws place.coefficient) (word ws (place.coefficient + 1));
    }

abbrev pub gate_settings_in : List ℕ → GateSettings
gate_settings_in ws =
    record { apply = flag_of (word ws place.apply); edition = numbered (word ws place.edition); blocklen = word ws place.block_length }

abbrev pub mending_in : List ℕ → Mending
mending_in ws =
    record {
      run = run_at (word ws place.run) (word ws (place.run + 1)) (word ws (place.run + 2)) (word ws (place.run + 3));
      left = option_at (word ws place.left) (word ws (place.left + 1));
    }

abbrev pub block_in : List ℕ → Block
block_in ws = record { number = word ws place.block; flagged = word ws place.flagged; paused = flag_of (word ws place.paused) }

abbrev pub gate_in : List ℕ → Gate
gate_in ws = record { settings = gate_settings_in ws; received = word ws place.received; mending = mending_in ws; block = block_in ws }

abbrev pub blocker_in : List ℕ → DcBlocker
blocker_in ws =
    record {
      a = of_bits binary64 (word ws place.factor);
      n = word ws place.updates;
      dc = complex_at (word ws place.level) (word ws (place.level + 1));
    }

abbrev pub monitor_in : List ℕ → ImageMonitor
monitor_in ws = record { first = option_at (word ws place.begun) (word ws (place.begun + 1)); end = word ws place.end }

abbrev pub counts_in : List ℕ → Counts
counts_in ws =
    record { seen = word ws place.seen; released = word ws place.released; held = word ws place.held; clamped = word ws place.clamped }

-- ---- the arrays and the log

abbrev pub part : ℕ → ℕ → List ℕ → List ℕ
part at n ws = take n (drop at ws)

abbrev pub powers_in : ℕ → List ℕ → List Float
powers_in at ws = map power_of (part at window_size ws)

abbrev pub suppressor_in : List ℕ → ImpulseSuppressor
suppressor_in ws =
    record {
      gate = gate_in ws;
      window = powers_in place.window ws;
      sorted = powers_in place.sorted ws;
      pending = part place.pending lookahead_size ws;
    }

abbrev pub ring_in : List ℕ → ℕ → Ring
ring_in ws k = record { head = word ws k; count = word ws (k + 1); dropped = word ws (k + 2) }

-- so many rings, from the first word of one list on, with their counts, from the first word of another
unfoldable pub marks_in : ℕ → List ℕ → List ℕ → List Marks
marks_in zero ws ns = []
marks_in (suc n) ws ns = record { samples = word ns 0; ring = ring_in ws 0 } ∷ marks_in n (drop 3 ws) (drop 1 ns)

abbrev pub log_in : List ℕ → Log
log_in ws = record { marks = marks_in 12 (drop place.rings ws) (drop place.counts ws) }

abbrev pub notes_in : List ℕ → Notes
notes_in ws = record { log = log_in ws; repairs = ring_in ws place.repair_ring; longruns = word ws place.long_runs }

-- ---- the state

unfoldable pub state_of : List ℕ → InputConditioner
state_of ws =
    record {
      settings = settings_in ws;
      counts = counts_in ws;
      suppressor = suppressor_in ws;
      blocker = blocker_in ws;
      monitor = monitor_in ws;
      notes = notes_in ws;
    }
