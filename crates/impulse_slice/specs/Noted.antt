-- The log with its stores, as the impulse stage's events move it. Definitions only.
use Rattle.std.specs.Prelude.{Bool, cond, ℕ, ◌+◌, ◌≤◌, ◌<◌, eqb, length, take, drop, Option, Some, None}
use mathlib.Core.List.{List, [], ◌∷◌, ◌++◌, foldl}
use Rattle.rules.specs.Lists.{indicator}
use Rattle.rules.specs.Impulse.{Setting, Event, uncertain, kept, mended}
use Rattle.rules.specs.Log as rules
use Rattle.rules.specs.Log.{ring_number, impulse, Repaired, Flagged, Uncertain, Span, span_of, append, repair_words, repair_width, marks_of, Sound}
use Rattle.stage_log.specs.View.{Logged, ring_in, marks_at, marked_at}
use Rattle.stage_log.specs.Ready.{Twelve, Bounded}
use Rattle.impulse.specs.declared.Run.{Run}
use Rattle.impulse.specs.declared.Ended.{Ended}
use Rattle.impulse.specs.declared.Ended.TheVariants.{Going, Kept, Mended}
use Rattle.impulse.specs.declared.ImpulseSuppressor.{ImpulseSuppressor}
use Rattle.impulse.specs.Running.{after, outs, step, emit, news}
use Rattle.stage_log.specs.declared.Notes.{Notes}

-- the rings with the span store, the repair ring with its words, and the long runs
pub record Noted : Type 0 where
  pub logged : Logged
  pub repairs : rules.Ring
  pub longruns : ℕ

abbrev pub noted_of : Notes → List ℕ → List ℕ → Noted
noted_of n spans repairs = record { logged = record { log = n.log; spans = spans }; repairs = ring_in n.repairs repairs; longruns = n.longruns }

-- one event: a ring of spans can hold `span_capacity`, the repair ring `repair_capacity`
abbrev pub note_event : ℕ → ℕ → Noted → Event → Noted
note_event span_capacity repair_capacity x (uncertain j) =
    record { logged = marked_at span_capacity x.logged (ring_number impulse Uncertain) (span_of j 1); repairs = x.repairs; longruns = x.longruns }
note_event span_capacity repair_capacity x (kept a n long) =
    record {
      logged = marked_at span_capacity x.logged (ring_number impulse Flagged) (span_of a n);
      repairs = x.repairs;
      longruns =
          x.longruns + indicator long;
    }
note_event span_capacity repair_capacity x (mended a n originals) =
    record {
      logged = marked_at span_capacity x.logged (ring_number impulse Repaired) (span_of a n);
      repairs = append repair_capacity x.repairs (repair_words a n originals);
      longruns = x.longruns;
    }

-- events in their order
unfoldable pub note_all : ℕ → ℕ → Noted → List Event → Noted
note_all span_capacity repair_capacity x es = foldl (note_event span_capacity repair_capacity) x es

-- ---- what a push says, as events

-- sample j was judged, and it may be uncertain
abbrev pub doubts : ℕ → Bool → List Event
doubts j doubt = cond doubt (uncertain j ∷ []) []

-- what became of a run; a repair with all its four originals
abbrev pub filled_events : Ended → List Event
filled_events Going = []
filled_events (Kept a n long) = kept a n long ∷ []
filled_events (Mended r) = mended r.start r.len (r.first ∷ r.second ∷ r.third ∷ r.fourth ∷ []) ∷ []

-- where the run that ended ends
abbrev pub ended_end : Ended → ℕ
ended_end Going = 0
ended_end (Kept a n long) = a + n
ended_end (Mended r) = r.start + r.len

-- ---- the stage over new samples, from any state

abbrev pub state_after : Setting → ImpulseSuppressor → List ℕ → ImpulseSuppressor
state_after s m new = after (step s) m new

abbrev pub handed : Setting → ImpulseSuppressor → List ℕ → List ℕ
handed s m new = outs (step s) (emit s) m new

abbrev pub told : Setting → ImpulseSuppressor → List ℕ → List Event
told s m new = outs (step s) (news s) m new

-- the list l with e from place i on
abbrev pub placed : List ℕ → ℕ → List ℕ → List ℕ
placed l i e = take i l ++ e ++ drop (i + length e) l

-- a list with others in front, in place
abbrev pub over : List ℕ → List ℕ → List ℕ
over ys xs = ys ++ drop (length ys) xs

-- ---- the rings that events may be told

-- what events mark in ring number k: the impulse stage's, by their kinds, and else nothing
abbrev pub marks_for : ℕ → List Event → List Span
marks_for k es =
    cond (eqb k (ring_number impulse Repaired)) (marks_of Repaired es)
    (cond (eqb k (ring_number impulse Flagged)) (marks_of Flagged es) (cond (eqb k (ring_number impulse Uncertain)) (marks_of Uncertain es) []))

-- twelve rings, each of them sound
pub record Rings (span_capacity : ℕ) (x : Logged) : Type 0 where
  pub twelve : Twelve span_capacity x
  pub sound : (k : ℕ) → k < 12 → Sound 2 span_capacity (marks_at span_capacity x k).ring

-- ---- what the notes must have room for

abbrev pub run_length : Option Run → ℕ
run_length None = 0
run_length (Some r) = r.len

-- every counter is at most b, and each ring is sound
pub record Roomy (span_capacity repair_capacity b : ℕ) (x : Noted) : Type 0 where
  pub spans : Bounded span_capacity b x.logged
  pub repairs : Sound repair_width repair_capacity x.repairs
  pub dropped : x.repairs.dropped ≤ b
  pub longruns : x.longruns ≤ b

-- by how much an event raises a counter at most
abbrev pub event_size : Event → ℕ
event_size (uncertain j) = 2
event_size (kept a n long) = n + 1
event_size (mended a n originals) = n + 1

abbrev pub events_size : List Event → ℕ
events_size [] = 0
events_size (e ∷ es) = event_size e + events_size es
