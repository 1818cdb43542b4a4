-- The spans that a report shows, read one by one; the report as the parts that it is put by. Assumes nothing.
use Rattle.std.specs.Prelude.{◌≡◌, Bool, ◌&&◌, List, [], ◌∷◌, ◌++◌, map, ℕ, zero, suc, ◌+◌, ◌≤◌, ◌<◌, ltb, leb, get_or, take}
use Rattle.std.proofs.Math.Path.{refl}
use Rattle.std.proofs.Common.{sym, ap, ◌∙◌, add-one, take-suc}
use Rattle.std.proofs.Math.Bool.{true, false, cond}
use native.Mathlib.Omega.{arith}
use borrow.Author.Tests.{leb-true}
use Rattle.std.proofs.Math.ListN.{length}
use Rattle.rules.proofs.laws.TestLaws.{both}
use Rattle.rules.specs.Log.{Span, span_of, impulse, dc, iq}
use Rattle.rules.proofs.laws.RingReading.{length_spans}
use Rattle.stage_log.specs.declared.Ring.{Ring as Ring·log}
use Rattle.stage_log.specs.View.{marks_at}
use Rattle.stage_log.specs.Check.{ring_of}
use Rattle.chain_state.specs.declared.InputConditioner.{InputConditioner}
use Rattle.chain_log.specs.Reading.{no_span, found, number_in, store_fits, readable, spans_in, span_read}
use Rattle.chain_log.proofs.laws.ReadingLaws.{store_is}
use Rattle.replay_text.specs.declared.Text.{Text}
use Rattle.replay_text.specs.Text.{each, Added}
use Rattle.replay_text.proofs.laws.PutLaws.{added_as, added_then, each_append, each_snoc}
use Rattle.replay_report.specs.Lines.{sample_lines}
use Rattle.replay_report.specs.Report.{marks, rings_of, ring_count, count_lines, ring_spans, span_lines, report_text}
use Rattle.replay_report.specs.Shown.{shown_spans, shown_ring, shown_counts, all_lines, shown_rest, report_in}

-- ---- number i of a list

pub number_none : (l : List Span) (i : ℕ) → number_in l i ≡ no_span → length l ≤ i
number_none [] i e = omega arith
number_none (x ∷ l) zero e = absurd (let z : ◌≡◌ {A = ℕ} 0 1 = cc in omega arith)
number_none (x ∷ l) (suc i) e = omega (arith, number_none l i e)

pub number_some : (l : List Span) (i : ℕ) (x : Span) → number_in l i ≡ found x → (i < length l) × (get_or l i (span_of 0 0) ≡ x)
number_some [] i x e = absurd (let z : ◌≡◌ {A = ℕ} 0 1 = cc in omega arith)
number_some (y ∷ l) zero x e = (omega arith, cc)
number_some (y ∷ l) (suc i) x e = let h = number_some l i x e in (omega (arith, h.0), h.1)

-- the text of one more
module _ {text middle after : Text} where
  pub span_next : (f : Span → List ℕ) (l : List Span) (i : ℕ) (x : Span) → number_in l i ≡ found x
      → Added text (each f (take i l)) middle → Added middle (f x) after → Added text (each f (take (i + 1) l)) after
  span_next f l i x e u v =
      let h = number_some l i x e in
      added_as
      (sym
      (ap (λ (n : ℕ). each f (take n l)) (add-one i)
      ∙ ap (each f) (take-suc l i (span_of 0 0) h.0)
      ∙ ap (λ (y : Span). each f (take i l ++ (y ∷ []))) h.1
      ∙ each_snoc f (take i l) x))
      (added_then u v)

-- ---- the spans that are shown

module _ (c : InputConditioner) (ws : List ℕ) (k : ℕ) where
  abbrev cap : ℕ
  cap = c.settings.spans

  abbrev ring : Ring·log
  ring = ring_of c.notes.log k

  pub shown_read : (i : ℕ) → span_read c ws k i ≡ number_in (shown_spans c ws k) i
  unfolding span_read shown_spans
  shown_read i = go (store_fits cap (length ws) && readable cap ring)
    where
      go : (t : Bool) → cond t (number_in (spans_in c ws k) i) no_span ≡ number_in (cond t (spans_in c ws k) []) i
      go true = refl
      go false = refl

  pub shown_few : length (shown_spans c ws k) ≤ 256
  unfolding shown_spans marks_at
  shown_few = go (store_fits cap (length ws) && readable cap ring) refl
    where
      go : (t : Bool) → (store_fits cap (length ws) && readable cap ring) ≡ t → length (cond t (spans_in c ws k) []) ≤ 256
      go true e =
          let p = both (store_fits cap (length ws)) (readable cap ring) e in
          let q = both (ltb ring.head cap) (leb ring.count cap) p.1 in
          omega (
            arith,
            (store_is cap (length ws) p.0).few,
            leb-true ring.count cap q.1,
            length_spans cap (marks_at cap (record { log = c.notes.log; spans = ws }) k).ring,
          )
      go false e = omega arith

-- ---- the parts of a report

each_three : {A : Type 0} (f : A → List ℕ) (x y z : List A) → each f (x ++ (y ++ z)) ≡ each f x ++ (each f y ++ each f z)
each_three f x y z = each_append f x (y ++ z) ∙ ap (λ (t : List ℕ). each f x ++ t) (each_append f y z)

module _ (c : InputConditioner) (ws : List ℕ) where
  counts_pieces : count_lines (rings_of (shown_ring c ws)) ≡ shown_counts c.notes.log
  unfolding each
  counts_pieces = each_three ring_count (map (shown_ring c ws impulse) marks) (map (shown_ring c ws dc) marks) (map (shown_ring c ws iq) marks)

  spans_pieces : span_lines (rings_of (shown_ring c ws)) ≡ all_lines c ws
  unfolding each
  spans_pieces = each_three ring_spans (map (shown_ring c ws impulse) marks) (map (shown_ring c ws dc) marks) (map (shown_ring c ws iq) marks)

  pub report_pieces : (replaced : ℕ)
      → sample_lines replaced c.counts.seen c.counts.released c.counts.held ++ (shown_counts c.notes.log ++ (all_lines c ws ++ shown_rest c))
      ≡ report_text (report_in c ws replaced)
  unfolding report_text report_in
  report_pieces replaced =
      λ j. sample_lines replaced c.counts.seen c.counts.released c.counts.held ++ (sym counts_pieces j ++ (sym spans_pieces j ++ shown_rest c))
