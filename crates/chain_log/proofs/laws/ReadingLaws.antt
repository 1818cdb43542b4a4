-- The DC level stands in the code's type as in the rules'; a span by the tests of its store and ring. Assumes nothing.
use Rattle.std.specs.Prelude.{◌≡◌, Option, Some, None, Bool, true, false, ◌&&◌, List, [], ◌∷◌, ℕ, zero, suc, ◌*◌, ◌≤◌, ◌<◌, ltb, leb, eqb, length, get_or, drop}
use Rattle.std.proofs.Math.Path.{refl, sym, ap}
use Rattle.std.proofs.Common.{◌∙◌, arith, ltb-true, ltb-false, leb-true, eqb-true, length-drop, length-take-le}
use Rattle.std.proofs.Math.Bool.{cond}
use Rattle.std.proofs.lemmas.Bool.{false≢true}
use Rattle.complex.specs.declared.Complex64.{Complex64}
use Rattle.rules.proofs.laws.TestLaws.{both}
use Rattle.rules.specs.Log.{Span, span_of, Sound, store_width}
use Rattle.rules.proofs.laws.RingReading.{length_spans}
use Rattle.rules.specs.Constants.{span_limit}
use Rattle.stage_log.specs.declared.Ring.{Ring}
use Rattle.stage_log.specs.View.{Logged, marks_at}
use Rattle.stage_log.specs.Check.{ring_of}
use Rattle.stage_log.proofs.laws.LogLaws.{part_inside}
use Rattle.chain_state.specs.declared.InputConditioner.{InputConditioner}
use Rattle.chain_log.specs.Reading.{level_of, level_from, no_span, found, number_in, store_fits, readable, spans_in, span_read}

pub level_again : (l : Option Complex64) → level_from (level_of l) ≡ l
level_again None = refl
level_again (Some z) = refl

-- ---- number i of a list

pub number_here : (l : List Span) (i : ℕ) (d : Span) → i < length l → number_in l i ≡ found (get_or l i d)
number_here [] i d h = absurd (omega arith)
number_here (s ∷ l) zero d h = refl
number_here (s ∷ l) (suc i) d h = number_here l i d (omega arith)

pub number_past : (l : List Span) (i : ℕ) → length l ≤ i → number_in l i ≡ no_span
number_past [] i h = refl
number_past (s ∷ l) zero h = absurd (omega arith)
number_past (s ∷ l) (suc i) h = number_past l i (omega arith)

-- ---- what the tests say

pub record Store (cap words : ℕ) : Type 0 where
  pub some : 0 < cap
  pub few : cap ≤ span_limit
  pub long : words ≡ store_width * cap

pub store_is : (cap words : ℕ) → store_fits cap words ≡ true → Store cap words
store_is cap words e =
    let p = both (ltb 0 cap && leb cap span_limit) (eqb words (store_width * cap)) e in
    let q = both (ltb 0 cap) (leb cap span_limit) p.0 in
    record { some = ltb-true 0 cap q.0; few = leb-true cap span_limit q.1; long = eqb-true words (store_width * cap) p.1 }

-- a ring in a store that fits is sound
pub read_sound : (cap : ℕ) (x : Logged) (k : ℕ) → store_fits cap (length x.spans) ≡ true → readable cap (ring_of x.log k) ≡ true → k < 12
    → Sound 2 cap (marks_at cap x k).ring
unfolding marks_at
read_sound cap x k s r h =
    let t = store_is cap (length x.spans) s in
    let q = both (ltb (ring_of x.log k).head cap) (leb (ring_of x.log k).count cap) r in
    record {
      some = t.some;
      long =
          length-take-le (cap * 2) (drop (k * (cap * 2)) x.spans) (omega (arith, t.long, length-drop (k * (cap * 2)) x.spans, part_inside (cap * 2) k h))
          ∙ (let q : cap * 2 ≡ 2 * cap = omega arith in q);
      head_in = ltb-true (ring_of x.log k).head cap q.0;
      count_in = leb-true (ring_of x.log k).count cap q.1;
    }

pub has_is : (cap : ℕ) (r : Ring) (i : ℕ) → (readable cap r && ltb i r.count) ≡ true → (readable cap r ≡ true) × (i < r.count)
has_is cap r i e = let p = both (readable cap r) (ltb i r.count) e in (p.0, ltb-true i r.count p.1)

-- ---- a span by the answers of the tests

module _ (c : InputConditioner) (ws : List ℕ) (k i : ℕ) where
  abbrev cap : ℕ
  cap = c.settings.spans

  abbrev ring : Ring
  ring = ring_of c.notes.log k

  spans_many : length (spans_in c ws k) ≡ ring.count
  unfolding marks_at
  spans_many = length_spans cap (marks_at cap (record { log = c.notes.log; spans = ws }) k).ring

  pub no_store : store_fits cap (length ws) ≡ false → no_span ≡ span_read c ws k i
  unfolding span_read
  no_store e = sym (ap (λ (t : Bool). cond (t && readable cap ring) (number_in (spans_in c ws k) i) no_span) e)

  by_readable : (t u : Bool) → readable cap ring ≡ t → ltb i ring.count ≡ u → (t && u) ≡ false → cond t (number_in (spans_in c ws k) i) no_span ≡ no_span
  by_readable false u e f n = refl
  by_readable true true e f n = absurd (false≢true (sym n))
  by_readable true false e f n = number_past (spans_in c ws k) i (omega (arith, spans_many, ltb-false i ring.count f))

  pub no_span_lem : store_fits cap (length ws) ≡ true → (readable cap ring && ltb i ring.count) ≡ false → no_span ≡ span_read c ws k i
  unfolding span_read
  no_span_lem e f =
      sym
      (ap (λ (t : Bool). cond (t && readable cap ring) (number_in (spans_in c ws k) i) no_span) e
      ∙ by_readable (readable cap ring) (ltb i ring.count) refl refl f)

  pub one_span : store_fits cap (length ws) ≡ true → (readable cap ring && ltb i ring.count) ≡ true
      → found (get_or (spans_in c ws k) i (span_of 0 0)) ≡ span_read c ws k i
  unfolding span_read
  one_span e f =
      let h = has_is cap ring i f in
      sym
      (ap (λ (t : Bool). cond (t && readable cap ring) (number_in (spans_in c ws k) i) no_span) e
      ∙ ap (λ (t : Bool). cond t (number_in (spans_in c ws k) i) no_span) h.0
      ∙ number_here (spans_in c ws k) i (span_of 0 0) (omega (arith, spans_many, h.1)))
