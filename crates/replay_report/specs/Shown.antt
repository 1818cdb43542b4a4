-- The report of a state and its span store. Any state and any store has one. Definitions only.
use Rattle.std.specs.Prelude.{cond, ◌&&◌, List, [], ◌++◌, ℕ, length}
use Rattle.rules.specs.Log.{Span, Stage, impulse, dc, iq, Mark, ring_number}
use Rattle.stage_log.specs.declared.Log.{Log}
use Rattle.stage_log.specs.Check.{ring_of, count_of, dropped_in_all}
use Rattle.iq.specs.View.{settled_of}
use Rattle.chain_state.specs.declared.InputConditioner.{InputConditioner}
use Rattle.chain_log.specs.Reading.{store_fits, readable, spans_in, state_level}
use Rattle.replay_text.specs.Text.{each}
use Rattle.replay_report.specs.Lines.{count_line, dropped_line, level_line, settled_line}
use Rattle.replay_report.specs.Report.{Ring, Report, marks, rings_of, span_lines_of}

-- the spans of ring number k, the oldest first; none where the store or the ring cannot be read
unfoldable pub shown_spans : InputConditioner → List ℕ → ℕ → List Span
shown_spans c ws k = let cap = c.settings.spans in cond (store_fits cap (length ws) && readable cap (ring_of c.notes.log k)) (spans_in c ws k) []

abbrev pub shown_ring : InputConditioner → List ℕ → Stage → Mark → Ring
shown_ring c ws s m = record { stage = s; mark = m; count = count_of c.notes.log (ring_number s m); spans = shown_spans c ws (ring_number s m) }

-- after so many samples were replaced
unfoldable pub report_in : InputConditioner → List ℕ → ℕ → Report
report_in c ws replaced =
    record {
      replaced = replaced;
      seen = c.counts.seen;
      final = c.counts.released;
      held = c.counts.held;
      rings = rings_of (shown_ring c ws);
      dropped_spans = dropped_in_all c.notes.log;
      dropped_repairs = c.notes.repairs.dropped;
      level = state_level c;
      settled = settled_of c.settings.iq;
    }

-- ---- the parts that its text is put by

-- the count line of a ring
abbrev pub shown_count : Log → Stage → Mark → List ℕ
shown_count l s m = count_line s m (count_of l (ring_number s m))

abbrev pub shown_counts : Log → List ℕ
shown_counts l = each (shown_count l impulse) marks ++ (each (shown_count l dc) marks ++ each (shown_count l iq) marks)

-- the span lines of a ring
abbrev pub shown_lines : InputConditioner → List ℕ → Stage → Mark → List ℕ
shown_lines c ws s m = span_lines_of s m (shown_spans c ws (ring_number s m))

abbrev pub all_lines : InputConditioner → List ℕ → List ℕ
all_lines c ws = each (shown_lines c ws impulse) marks ++ (each (shown_lines c ws dc) marks ++ each (shown_lines c ws iq) marks)

-- what follows the rings
abbrev pub shown_rest : InputConditioner → List ℕ
shown_rest c = dropped_line (dropped_in_all c.notes.log) c.notes.repairs.dropped ++ (level_line (state_level c) ++ settled_line (settled_of c.settings.iq))
