-- The report of no samples, in document 02's words (R-7). Assumes nothing.
use Rattle.std.proofs.Math.Path.{◌≡◌, refl, ap}
use Rattle.std.proofs.Common.{◌∙◌}
use Rattle.std.specs.Prelude.{Bool}
use Rattle.std.proofs.Math.Bool.{true, false, cond}
use mathlib.Core.List.{List, [], ◌∷◌, map, sum}
use Prim.Native.Nat.{ℕ, ◌+◌, min}
use Rattle.std.proofs.Math.ListN.{length}
use Rattle.rules.specs.Lists.{up_to}
use Rattle.rules.specs.Guard.{guarded, unusable}
use Rattle.rules.specs.Mode.{is_apply, runs}
use Rattle.rules.specs.Impulse.{lookahead_size, Event, events, happened, handed_on}
use Rattle.rules.specs.Dc.{corner, first_level, level_after, blocked_all}
use Rattle.rules.specs.Iq.{Settled, Off, Observing, Withheld, Correcting, corrected_by}
use Rattle.rules.specs.Log.{Stage, impulse, dc, iq, Mark, Repaired, Flagged, Corrected, Uncertain, span_of, no_marks, mark, marked, marks_of, repaired, repairs_of}
use Rattle.rules.specs.Log.{spans_of}
use Rattle.rules.specs.Monitor.{answers, suspected_spans}
use Rattle.rules.specs.Chain.{Config, impulse_events, after_impulse, after_dc, settled_by, released, level_is, no_level, dc_level, whole, iq_marks, evidence, ring_of}
use Rattle.rules.specs.Chain.{held_of, repair_ring}
use Rattle.replay_text.specs.Text.{each}
use Rattle.replay_report.specs.Lines.{count_line}
use Rattle.replay_report.specs.Report.{rings_of, ring_by, report_text, report_by, fresh_text}

-- ---- the rules for no samples

module _ (c : Config) where
  no_events : impulse_events c [] ≡ []
  unfolding impulse_events happened events
  no_events = go (runs c.impulse_mode)
    where
      go : (b : Bool) → ◌≡◌ {A = List Event} (cond b [] []) []
      go true = refl
      go false = refl

  none_handed : after_impulse c [] ≡ []
  unfolding after_impulse handed_on up_to
  none_handed = go (runs c.impulse_mode) (is_apply c.impulse_mode)
    where
      go : (a b : Bool) → ◌≡◌ {A = List ℕ} (cond a (cond b [] []) []) []
      go true true = refl
      go true false = refl
      go false b = refl

  none_released : released c [] ≡ []
  unfolding released after_dc blocked_all
  none_released =
      ap (λ (l : List ℕ). map (corrected_by (settled_by c)) (cond (is_apply c.dc_mode) (blocked_all (corner c.fs) first_level l) l)) none_handed
      ∙ go (is_apply c.dc_mode)
    where
      go : (b : Bool) → map (corrected_by (settled_by c)) (cond b [] []) ≡ []
      go true = refl
      go false = refl

  -- a mark of all that was released
  whole_none : marked c.spans (whole c []) ≡ no_marks c.spans
  unfolding marked mark
  whole_none = ap (λ (l : List ℕ). marked c.spans (span_of 0 (length l) ∷ [])) none_released

  no_marks_lem : (s : Stage) (m : Mark) → ring_of c [] [] s m ≡ no_marks c.spans
  unfolding ring_of marked marks_of evidence answers suspected_spans
  no_marks_lem impulse m = ap (λ (es : List Event). marked c.spans (marks_of m es)) no_events
  no_marks_lem dc Corrected = go (is_apply c.dc_mode)
    where
      go : (b : Bool) → marked c.spans (cond b (whole c []) []) ≡ no_marks c.spans
      go true = whole_none
      go false = refl
  no_marks_lem dc Repaired = refl
  no_marks_lem dc Flagged = refl
  no_marks_lem dc Uncertain = refl
  no_marks_lem iq m = go (settled_by c) m
    where
      go : (x : Settled) (m : Mark) → marked c.spans (iq_marks c [] (evidence c []) x m) ≡ no_marks c.spans
      go (Correcting r) Corrected = whole_none
      go (Correcting r) Repaired = refl
      go (Correcting r) Flagged = refl
      go (Correcting r) Uncertain = refl
      go Withheld Uncertain = whole_none
      go Withheld Repaired = refl
      go Withheld Flagged = refl
      go Withheld Corrected = refl
      go Observing Repaired = refl
      go Observing Flagged = refl
      go Observing Corrected = refl
      go Observing Uncertain = refl
      go Off m = refl

  none_held : held_of c [] ≡ 0
  none_held = go (is_apply c.impulse_mode)
    where
      go : (b : Bool) → cond b (min lookahead_size 0) 0 ≡ 0
      go true = refl
      go false = refl

  pub fresh_report : report_text (report_by c []) ≡ fresh_text c
  unfolding report_by report_text fresh_text guarded unusable each count_line spans_of up_to sum dc_level level_after repair_ring repaired repairs_of
  fresh_report =
      λ i.
      report_text
      (record {
        replaced = 0;
        seen = 0;
        final = length (none_released i);
        held = none_held i;
        rings = rings_of (λ s m. ring_by c.spans s m (no_marks_lem s m i));
        dropped_spans = sum ◌+◌ 0 (rings_of (λ s m. (no_marks_lem s m i).ring.dropped));
        dropped_repairs = (repaired c.repairs (repairs_of (no_events i))).dropped;
        level = cond (runs c.dc_mode) (level_is (level_after (corner c.fs) first_level (none_handed i)).level) no_level;
        settled =
            settled_by c;
      })
