-- Events one after another, in the log with its stores: what they come to, and how far the counters rise. Assumes nothing.
use Rattle.std.specs.Prelude.{◌≡◌, Bool, true, false, ℕ, ◌+◌, ◌≤◌, ◌<◌}
use Rattle.std.proofs.Math.Path.{refl}
use Rattle.std.proofs.Common.{sym, ◌∙◌, arith, lit<}
use mathlib.Core.List.{List, [], ◌∷◌, ◌++◌, foldl-append}
use Rattle.rules.specs.Lists.{indicator}
use Rattle.rules.specs.Impulse.{Event, uncertain, kept, mended}
use Rattle.rules.specs.Log as rules
use Rattle.rules.specs.Log.{ring_number, impulse, Repaired, Flagged, Uncertain, span_of, append, repair_words, repair_width}
use Rattle.rules.proofs.laws.RingLaws.{append_sound, append_drops}
use Rattle.stage_log.specs.View.{Logged, marked_at}
use Rattle.stage_log.proofs.laws.CheckLaws.{marked_bounded}
use Rattle.stage_log.specs.Ready.{Bounded}
use Rattle.impulse.specs.Machine.{Ending, going, kept_run, mended_run}
use Rattle.impulse.specs.View.{repair_of, ended_of, ending_events}
use Rattle.impulse.proofs.laws.ViewLaws.{repair_words_lem}
use Rattle.impulse_slice.specs.Noted.{Noted, note_event, note_all, doubts, filled_events, Roomy, event_size, events_size}

-- ---- events one after another

module _ (span_capacity repair_capacity : ℕ) where
  pub note_none : (x : Noted) → note_all span_capacity repair_capacity x [] ≡ x
  unfolding note_all
  note_none x = refl

  pub note_append : (x : Noted) (es fs : List Event)
      → note_all span_capacity repair_capacity x (es ++ fs) ≡ note_all span_capacity repair_capacity (note_all span_capacity repair_capacity x es) fs
  unfolding note_all
  note_append x es fs = foldl-append (note_event span_capacity repair_capacity) x es fs

  -- a repair's words have four originals, whether the event has them all or the run's alone
  pub filled_same : (x : Noted) (e : Ending)
      → note_all span_capacity repair_capacity x (filled_events (ended_of e)) ≡ note_all span_capacity repair_capacity x (ending_events e)
  unfolding note_all repair_of
  filled_same x going = refl
  filled_same x (kept_run a n long) = refl
  filled_same x (mended_run a n os) =
      let w = repair_words_lem a n os in
      λ i. record {
        logged = marked_at span_capacity x.logged (ring_number impulse Repaired) (span_of a n);
        repairs =
            append repair_capacity x.repairs (w i);
        longruns = x.longruns;
      }

  pub said_same : (x : Noted) (j : ℕ) (doubt : Bool) (e : Ending)
      → note_all span_capacity repair_capacity x (doubts j doubt ++ filled_events (ended_of e))
      ≡ note_all span_capacity repair_capacity x (doubts j doubt ++ ending_events e)
  said_same x j doubt e =
      note_append x (doubts j doubt) (filled_events (ended_of e))
      ∙ filled_same (note_all span_capacity repair_capacity x (doubts j doubt)) e
      ∙ sym (note_append x (doubts j doubt) (ending_events e))

-- ---- how far the counters rise

pub bounded_up : (span_capacity b c : ℕ) (x : Logged) → b ≤ c → Bounded span_capacity b x → Bounded span_capacity c x
bounded_up span_capacity b c x h d =
    record {
      twelve = d.twelve;
      sound = d.sound;
      dropped = λ k l. let r = d.dropped k l in omega arith;
      count = λ k l. let r = d.count k l in omega arith;
    }

pub roomy_up : (span_capacity repair_capacity b c : ℕ) (x : Noted) → b ≤ c → Roomy span_capacity repair_capacity b x → Roomy span_capacity repair_capacity c x
roomy_up span_capacity repair_capacity b c x h r =
    record {
      spans = bounded_up span_capacity b c x.logged h r.spans;
      repairs = r.repairs;
      dropped = omega (arith, r.dropped);
      longruns = omega (arith, r.longruns);
    }

one_most : (b : Bool) → indicator b ≤ 1
one_most true = omega arith
one_most false = omega arith

module _ (span_capacity repair_capacity : ℕ) where
  marked_up : (b k : ℕ) (x : Logged) (s : rules.Span) → k < 12 → Bounded span_capacity b x
      → Bounded span_capacity (b + (s.len + 1)) (marked_at span_capacity x k s)
  marked_up b k x s h d =
      bounded_up span_capacity (b + 1 + s.len) (b + (s.len + 1)) (marked_at span_capacity x k s) (omega arith) (marked_bounded span_capacity b x k s d h)

  pub roomy_event : (b : ℕ) (x : Noted) (e : Event) → Roomy span_capacity repair_capacity b x
      → Roomy span_capacity repair_capacity (b + event_size e) (note_event span_capacity repair_capacity x e)
  roomy_event b x (uncertain j) r =
      record {
        spans = marked_up b (ring_number impulse Uncertain) x.logged (span_of j 1) (lit< tt) r.spans;
        repairs = r.repairs;
        dropped = omega (arith, r.dropped);
        longruns = omega (arith, r.longruns);
      }
  roomy_event b x (kept a n long) r =
      record {
        spans = marked_up b (ring_number impulse Flagged) x.logged (span_of a n) (lit< tt) r.spans;
        repairs = r.repairs;
        dropped = omega (arith, r.dropped);
        longruns = omega (arith, r.longruns, one_most long);
      }
  roomy_event b x (mended a n os) r =
      record {
        spans = marked_up b (ring_number impulse Repaired) x.logged (span_of a n) (lit< tt) r.spans;
        repairs = append_sound repair_width repair_capacity x.repairs (repair_words a n os) r.repairs;
        dropped = omega (arith, r.dropped, append_drops repair_width repair_capacity x.repairs (repair_words a n os) r.repairs);
        longruns = omega (arith, r.longruns);
      }

  pub roomy_all : (b : ℕ) (x : Noted) (es : List Event) → Roomy span_capacity repair_capacity b x
      → Roomy span_capacity repair_capacity (b + events_size es) (note_all span_capacity repair_capacity x es)
  unfolding note_all
  roomy_all b x [] r = roomy_up span_capacity repair_capacity b (b + 0) x (omega arith) r
  roomy_all b x (e ∷ es) r =
      roomy_up span_capacity repair_capacity (b + event_size e + events_size es) (b + (event_size e + events_size es))
      (note_all span_capacity repair_capacity (note_event span_capacity repair_capacity x e) es) (omega arith)
      (roomy_all (b + event_size e) (note_event span_capacity repair_capacity x e) es (roomy_event b x e r))
