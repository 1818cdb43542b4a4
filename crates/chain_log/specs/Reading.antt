-- The log of a state, and a span in its store, in document 01's words. Definitions only.
use Rattle.std.specs.Prelude.{Bool, Option, Some, None, cond, ◌&&◌, List, [], ◌∷◌, ℕ, zero, suc, ◌*◌, ltb, leb, eqb, length}
use Rattle.complex.specs.Complex.{Complex}
use Rattle.complex.specs.declared.Complex64.{Complex64}
use Rattle.complex.specs.View.{view64, make64}
use Rattle.rules.specs.Constants.{span_limit}
use Rattle.rules.specs.Mode.{Mode, runs}
use Rattle.rules.specs.Log.{Span, span_of, spans_of, store_width}
use Rattle.rules.specs.Chain as rules
use Rattle.rules.specs.Chain.{no_level, level_is}
use Rattle.stage_log.specs.declared.Ring.{Ring}
use Rattle.stage_log.specs.declared.Span as stage_log
use Rattle.stage_log.specs.View.{marks_at}
use Rattle.stage_log.specs.Check.{ring_of, dropped_in_all}
use Rattle.stage_mode.specs.View.{mode_of}
use Rattle.chain_state.specs.declared.InputConditioner.{InputConditioner}
use Rattle.chain_log.specs.declared.ConditioningLog.{ConditioningLog}

-- ---- the DC level

abbrev pub level_of : Option Complex64 → rules.DcLevel
level_of None = no_level
level_of (Some z) = level_is (view64 z)

-- and back
abbrev pub level_from : rules.DcLevel → Option Complex64
level_from no_level = None
level_from (level_is z) = Some (make64 z)

-- none where the stage is off
abbrev pub level_where : Mode → Complex → rules.DcLevel
level_where m z = cond (runs m) (level_is z) no_level

abbrev pub state_level : InputConditioner → rules.DcLevel
state_level c = level_where (mode_of c.settings.dc) (view64 c.blocker.dc)

-- ---- the log: 'these three, every count and ring head, .. DC level, what IQ settled'; document 02, R-1: 'the log counts those steps'

unfoldable pub log_of : InputConditioner → ConditioningLog
log_of c =
    record {
      counts = c.counts;
      notes = c.notes;
      dropped = dropped_in_all c.notes.log;
      dclevel = level_from (state_level c);
      iq = c.settings.iq;
    }

-- ---- a span

-- none, or this one
pub data Found : Type 0 where
  no_span : Found
  found : Span → Found

abbrev pub said_span : Option stage_log.Span → Found
said_span None = no_span
said_span (Some s) = found (span_of s.start s.len)

-- number i of a list
abbrev pub number_in : List Span → ℕ → Found
number_in [] i = no_span
number_in (s ∷ l) zero = found s
number_in (s ∷ l) (suc i) = number_in l i

-- 'spans 1..256', and a store of '24·spans' words
abbrev pub store_fits : ℕ → ℕ → Bool
store_fits cap words = ltb 0 cap && leb cap span_limit && eqb words (store_width * cap)

-- not: 'ring count or head out of range'
abbrev pub readable : ℕ → Ring → Bool
readable cap r = ltb r.head cap && leb r.count cap

-- the spans of ring number k, the oldest first
abbrev pub spans_in : InputConditioner → List ℕ → ℕ → List Span
spans_in c ws k = spans_of c.settings.spans (marks_at c.settings.spans (record { log = c.notes.log; spans = ws }) k).ring

-- span number i of ring number k, where the store and the ring can be read
unfoldable pub span_read : InputConditioner → List ℕ → ℕ → ℕ → Found
span_read c ws k i = let cap = c.settings.spans in
    cond (store_fits cap (length ws) && readable cap (ring_of c.notes.log k)) (number_in (spans_in c ws k) i) no_span
