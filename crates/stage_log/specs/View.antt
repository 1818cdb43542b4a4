-- The structs of the code with their words, as document 01's rules have them; a mark in one of the twelve parts of the span store. Definitions only.
use Rattle.std.specs.Prelude.{List, [], ◌∷◌, ◌++◌, map, ℕ, ◌*◌, get_or, set, take, drop, replicate}
use Rattle.rules.specs.Log as rules
use Rattle.rules.specs.Log.{Span, span_of, mark, repair_words, impulse, dc, iq, Repaired, Flagged, Corrected, Uncertain}
use Rattle.stage_log.specs.declared.Stage.{Stage}
use Rattle.stage_log.specs.declared.Stage.TheVariants.{Impulse, Dc, Iq}
use Rattle.stage_log.specs.declared.Mark.{Mark}
use Rattle.stage_log.specs.declared.Mark.TheVariants as kind
use Rattle.stage_log.specs.declared.Ring.{Ring}
use Rattle.stage_log.specs.declared.Marks.{Marks}
use Rattle.stage_log.specs.declared.Log.{Log}
use Rattle.stage_log.specs.declared.Notes.{Notes}
use Rattle.stage_log.specs.declared.Repair.{Repair}
use Rattle.stage_log.specs.declared.Span as declared

abbrev pub stage_of : Stage → rules.Stage
stage_of Impulse = impulse
stage_of Dc = dc
stage_of Iq = iq

abbrev pub mark_of : Mark → rules.Mark
mark_of kind.Repaired = Repaired
mark_of kind.Flagged = Flagged
mark_of kind.Corrected = Corrected
mark_of kind.Uncertain = Uncertain

-- ---- a ring with its words

abbrev pub ring_in : Ring → List ℕ → rules.Ring
ring_in r ws = record { head = r.head; count = r.count; dropped = r.dropped; words = ws }

abbrev pub bare : rules.Ring → Ring
bare r = record { head = r.head; count = r.count; dropped = r.dropped }

abbrev pub marks_in : Marks → List ℕ → rules.Marks
marks_in m ws = record { samples = m.samples; ring = ring_in m.ring ws }

abbrev pub bare_marks : rules.Marks → Marks
bare_marks m = record { samples = m.samples; ring = bare m.ring }

abbrev pub span_in : declared.Span → Span
span_in s = span_of s.start s.len

-- a repair's words
abbrev pub words_of_repair : Repair → List ℕ
words_of_repair r = repair_words r.start r.len (r.first ∷ r.second ∷ r.third ∷ r.fourth ∷ [])

-- ---- the log with the span store

pub record Logged : Type 0 where
  pub log : Log
  pub spans : List ℕ

abbrev pub fresh_ring : Ring
fresh_ring = record { head = 0; count = 0; dropped = 0 }

abbrev pub fresh_marks : Marks
fresh_marks = record { samples = 0; ring = fresh_ring }

unfoldable pub fresh_log : Log
fresh_log = record { marks = replicate 12 fresh_marks }

abbrev pub fresh_notes : Notes
fresh_notes = record { log = fresh_log; repairs = fresh_ring; longruns = 0 }

-- with other rings of spans
abbrev pub with_log : Notes → Log → Notes
with_log n l = record { log = l; repairs = n.repairs; longruns = n.longruns }

-- 'Twelve rings, each a part of the one lent span store': part k, of so many words, and the store with another there
abbrev pub part_of : ℕ → List ℕ → ℕ → List ℕ
part_of size ws k = take size (drop (k * size) ws)

abbrev pub with_part : ℕ → List ℕ → ℕ → List ℕ → List ℕ
with_part size ws k part = take (k * size) ws ++ (part ++ drop size (drop (k * size) ws))

-- the marks of ring number k
unfoldable pub marks_at : ℕ → Logged → ℕ → rules.Marks
marks_at cap x k = marks_in (get_or x.log.marks k fresh_marks) (part_of (cap * 2) x.spans k)

-- the log with other marks there
unfoldable pub with_marks : ℕ → Logged → ℕ → rules.Marks → Logged
with_marks cap x k m =
    record {
      log = record { marks = set x.log.marks k (bare_marks m) };
      spans = with_part (cap * 2) x.spans k m.ring.words;
    }

-- a mark in ring number k
unfoldable pub marked_at : ℕ → Logged → ℕ → Span → Logged
marked_at cap x k m = with_marks cap x k (mark cap (marks_at cap x k) m)

-- ---- the log as the list of its rings

-- the store that rings make up
unfoldable pub joined : List rules.Marks → List ℕ
joined [] = []
joined (m ∷ ms) = m.ring.words ++ joined ms

unfoldable pub log_of : List rules.Marks → Logged
log_of ms = record { log = record { marks = map (λ (m : rules.Marks). bare_marks m) ms }; spans = joined ms }
