-- Document 01, 'Log': twelve rings of spans and a ring of repairs. Definitions only.
use Rattle.std.specs.Prelude.{Bool, false, cond, ◌&&◌, ◌≡◌, ℕ, ◌+◌, ◌*◌, ◌-◌, ◌%◌, ◌≤◌, ◌<◌, ltb, eqb, length, set, take, replicate}
use mathlib.Core.List.{List, [], ◌∷◌, ◌++◌, foldl}
use Rattle.rules.specs.Impulse.{Event, uncertain, kept, mended}
use Rattle.rules.specs.Lists.{at, indicator, up_to}

-- ---- a ring of entries, each of so many words, in a store that has room for cap of them

-- where the oldest entry stands, how many entries there are, how many were dropped, and the words
pub record Ring : Type 0 where
  pub head : ℕ
  pub count : ℕ
  pub dropped : ℕ
  pub words : List ℕ

-- its numbers and its store fit each other
pub record Sound (width cap : ℕ) (r : Ring) : Type 0 where
  pub some : 0 < cap
  pub long : length r.words ≡ width * cap
  pub head_in : r.head < cap
  pub count_in : r.count ≤ cap

-- 'Making fills lent words with 0.'
abbrev pub empty_ring : ℕ → Ring
empty_ring size = record { head = 0; count = 0; dropped = 0; words = replicate size 0 }

-- the words with those of an entry from place o on
unfoldable pub write : List ℕ → ℕ → List ℕ → List ℕ
write ws o [] = ws
write ws o (e ∷ es) = write (set ws o e) (o + 1) es

-- 'if full, the oldest goes and the dropped count rises'; 'dropping moves the head on by one, mod capacity too'
unfoldable pub roomed : ℕ → Ring → Ring
roomed cap r = cond (ltb r.count cap) r (record { head = (r.head + 1) % cap; count = r.count - 1; dropped = r.dropped + 1; words = r.words })

-- 'A ring writes at (head + count) mod capacity'
abbrev pub next_place : ℕ → Ring → ℕ
next_place cap r = (r.head + r.count) % cap

abbrev pub entered : ℕ → Ring → List ℕ → Ring
entered cap r e = record { head = r.head; count = r.count + 1; dropped = r.dropped; words = write r.words (next_place cap r * length e) e }

-- one entry more, the oldest making room
unfoldable pub append : ℕ → Ring → List ℕ → Ring
append cap r e = entered cap (roomed cap r) e

-- ---- a ring of spans, and how many samples were marked

-- 'A span is two u64 words'
pub record Span : Type 0 where
  pub start : ℕ
  pub len : ℕ

abbrev pub span_words : Span → List ℕ
span_words m = m.start ∷ m.len ∷ []

pub record Marks : Type 0 where
  pub samples : ℕ
  pub ring : Ring

abbrev pub span_width : ℕ
span_width = 2

abbrev pub no_marks : ℕ → Marks
no_marks cap = record { samples = 0; ring = empty_ring (span_width * cap) }

-- the place of the newest span, where there is one
abbrev pub newest_place : ℕ → Ring → ℕ
newest_place cap r = (r.head + (r.count - 1)) % cap

abbrev pub start_at : Ring → ℕ → ℕ
start_at r i = at r.words (i * span_width)

abbrev pub len_at : Ring → ℕ → ℕ
len_at r i = at r.words (i * span_width + 1)

-- where the newest span ends
abbrev pub newest_end : ℕ → Ring → ℕ
newest_end cap r = start_at r (newest_place cap r) + len_at r (newest_place cap r)

-- 'starting where the ring's newest span ends'
unfoldable pub joins : ℕ → Ring → ℕ → Bool
joins cap r s = ltb 0 r.count && eqb (start_at r (newest_place cap r) + len_at r (newest_place cap r)) s

-- 'it lengthens that span'
unfoldable pub lengthened : ℕ → Ring → ℕ → Ring
lengthened cap r n =
    record {
      head = r.head;
      count = r.count;
      dropped = r.dropped;
      words = set r.words (newest_place cap r * span_width + 1) (len_at r (newest_place cap r) + n);
    }

-- 'A mark of length 0 does nothing. Another adds its length to its count; starting where the ring's newest span ends, it lengthens that span; else' it is a new
-- one
unfoldable pub mark : ℕ → Marks → Span → Marks
mark cap r m =
    cond (eqb m.len 0) r
    (record {
      samples = r.samples + m.len;
      ring = cond (joins cap r.ring m.start) (lengthened cap r.ring m.len) (append cap r.ring (span_words m));
    })

-- the ring after marks, from an empty one
unfoldable pub marked : ℕ → List Span → Marks
marked cap ms = foldl (mark cap) (no_marks cap) ms

-- ---- 'The repair ring does the same without joining.'

-- 'a repair six: start, length, four originals (bits of re in the low half, im in the high; unused ones 0)'
unfoldable pub repair_words : ℕ → ℕ → List ℕ → List ℕ
repair_words start len originals = start ∷ len ∷ take 4 (originals ++ replicate 4 0)

abbrev pub repair_width : ℕ
repair_width = 6

unfoldable pub repaired : ℕ → List (List ℕ) → Ring
repaired cap rs = foldl (append cap) (empty_ring (repair_width * cap)) rs

-- ---- 'Twelve rings, each a part of the one lent span store, in the order impulse, DC, IQ, then Repaired, Flagged, Corrected, Uncertain.'

pub data Stage : Type 0 where
  impulse dc iq : Stage

abbrev pub ring_count : ℕ
ring_count = 12

-- the words of the store for each span that a ring can hold: '24·spans'
abbrev pub store_width : ℕ
store_width = ring_count * span_width

pub data Mark : Type 0 where
  Repaired Flagged Corrected Uncertain : Mark

abbrev pub stage_number : Stage → ℕ
stage_number impulse = 0
stage_number dc = 1
stage_number iq = 2

abbrev pub mark_number : Mark → ℕ
mark_number Repaired = 0
mark_number Flagged = 1
mark_number Corrected = 2
mark_number Uncertain = 3

abbrev pub ring_number : Stage → Mark → ℕ
ring_number s m = stage_number s * 4 + mark_number m

-- ---- what the impulse stage's events mark: a mended run is 'marked Repaired and logged with its originals'

abbrev pub span_of : ℕ → ℕ → Span
span_of s n = record { start = s; len = n }

-- the span at place i
abbrev pub span_in : List ℕ → ℕ → Span
span_in ws i = span_of (at ws (i * 2)) (at ws (i * 2 + 1))

-- the spans that a ring holds, oldest first
unfoldable pub spans_of : ℕ → Ring → List Span
spans_of cap r = up_to (λ i. span_in r.words ((r.head + i) % cap)) r.count

abbrev pub marks_of_event : Mark → Event → List Span
marks_of_event Repaired (mended a n o) = span_of a n ∷ []
marks_of_event Repaired (kept a n l) = []
marks_of_event Repaired (uncertain j) = []
marks_of_event Flagged (mended a n o) = []
marks_of_event Flagged (kept a n l) = span_of a n ∷ []
marks_of_event Flagged (uncertain j) = []
marks_of_event Corrected e = []
marks_of_event Uncertain (mended a n o) = []
marks_of_event Uncertain (kept a n l) = []
marks_of_event Uncertain (uncertain j) = span_of j 1 ∷ []

unfoldable pub marks_of : Mark → List Event → List Span
marks_of m [] = []
marks_of m (e ∷ es) = marks_of_event m e ++ marks_of m es

abbrev pub repairs_of_event : Event → List (List ℕ)
repairs_of_event (mended a n o) = repair_words a n o ∷ []
repairs_of_event (kept a n l) = []
repairs_of_event (uncertain j) = []

unfoldable pub repairs_of : List Event → List (List ℕ)
repairs_of [] = []
repairs_of (e ∷ es) = repairs_of_event e ++ repairs_of es

abbrev pub is_long : Event → Bool
is_long (kept a n l) = l
is_long (mended a n o) = false
is_long (uncertain j) = false

-- 'long-run count plus 1'
unfoldable pub long_runs : List Event → ℕ
long_runs [] = 0
long_runs (e ∷ es) = indicator (is_long e) + long_runs es
