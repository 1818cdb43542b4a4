-- What the tests of number 5 on rings say, and that they let a mark follow. Assumes nothing.
use Rattle.std.specs.Prelude.{◌≡◌, refl, Bool, true, false, cond, ◌&&◌, ℕ, zero, suc, ◌+◌, ◌*◌, ◌^◌, ◌≤◌, ◌<◌, ltb, leb, length, drop, replicate}
use Rattle.std.proofs.Common.{ap, sym, ◌∙◌, arith, lt-ltb, le-leb, ltb-true, leb-true, length-drop, length-take-le}
use Rattle.std.proofs.Math.Decide.{ℕ_discrete}
use Rattle.std.proofs.lemmas.List.{length-replicate}
use Rattle.rules.specs.Log as rules
use Rattle.rules.specs.Log.{Span, mark, Sound, newest_end, store_width}
use Rattle.rules.proofs.laws.TestLaws.{both}
use Rattle.rules.proofs.laws.RingLaws.{empty_sound}
use Rattle.rules.proofs.laws.MarkLaws.{EndsBy, mark_samples, mark_sound, mark_drops}
use Rattle.stage_log.specs.declared.Ring.{Ring}
use Rattle.stage_log.specs.declared.Log.{Log}
use Rattle.stage_log.specs.View.{Logged, fresh_log, marks_at, marked_at}
use Rattle.stage_log.specs.Ready.{Fits, Bounded}
use Rattle.stage_log.specs.Check.{all_to, ring_fits, ring_of, count_of, log_fits, end_fits, ends_fit}
use Rattle.stage_log.proofs.laws.LogLaws.{part_inside, marked_twelve, marked_same, marked_other, fresh_marks_at}

-- ---- all below a number

pub all_next : (f : ℕ → Bool) (n : ℕ) → all_to f n ≡ true → f n ≡ true → all_to f (suc n) ≡ true
unfolding all_to
all_next f n a b = rw (a, b)

pub all_at : (f : ℕ → Bool) (n k : ℕ) → all_to f n ≡ true → k < n → f k ≡ true
unfolding all_to
all_at f zero k a h = absurd (omega arith)
all_at f (suc n) k a h = let p = both (all_to f n) (f n) a in go (ℕ_discrete k n) p.1 (all_at f n k p.0)
  where
    go : Dec (k ≡ n) → f n ≡ true → (k < n → f k ≡ true) → f k ≡ true
    go (yes e) b r = ap f e ∙ b
    go (no e) b r = r (omega arith)

pub all_of : (f : ℕ → Bool) (n : ℕ) → ((k : ℕ) → k < n → f k ≡ true) → all_to f n ≡ true
unfolding all_to
all_of f zero h = refl
all_of f (suc n) h = all_next f n (all_of f n (λ k l. h k (omega arith))) (h n (omega arith))

-- one that does not hold
pub all_not : (f : ℕ → Bool) (n k : ℕ) → k < n → f k ≡ false → all_to f n ≡ false
all_not f n k h e = go (all_to f n) refl
  where
    go : (b : Bool) → all_to f n ≡ b → b ≡ false
    go false a = refl
    go true a = sym (all_at f n k a h) ∙ e

-- ---- a ring whose numbers are in range

pub record InRange (cap : ℕ) (r : Ring) (n : ℕ) : Type 0 where
  pub head_in : r.head < cap
  pub count_in : r.count ≤ cap
  pub dropped : r.dropped ≤ 2 ^ 52
  pub count : n ≤ 2 ^ 52

pub ring_range : (cap : ℕ) (r : Ring) (n : ℕ) → ring_fits cap r n ≡ true → InRange cap r n
ring_range cap r n e =
    let a = both (ltb r.head cap && leb r.count cap && leb r.dropped (2 ^ 52)) (leb n (2 ^ 52)) e in
    let b = both (ltb r.head cap && leb r.count cap) (leb r.dropped (2 ^ 52)) a.0 in
    let d = both (ltb r.head cap) (leb r.count cap) b.0 in
    record { head_in = ltb-true _ _ d.0; count_in = leb-true _ _ d.1; dropped = leb-true _ _ b.1; count = leb-true _ _ a.1 }

pub range_ring : (cap : ℕ) (r : Ring) (n : ℕ) → InRange cap r n → ring_fits cap r n ≡ true
range_ring cap r n k =
    simp (lt-ltb r.head cap k.head_in, le-leb r.count cap k.count_in, le-leb r.dropped (2 ^ 52) k.dropped, le-leb n (2 ^ 52) k.count)

pub log_range : (cap : ℕ) (l : Log) (k : ℕ) → log_fits cap l ≡ true → k < 12 → InRange cap (ring_of l k) (count_of l k)
unfolding log_fits
log_range cap l k e h = ring_range cap (ring_of l k) (count_of l k) (all_at (λ j. ring_fits cap (ring_of l j) (count_of l j)) 12 k e h)

-- such a ring is sound
pub log_sound : (cap : ℕ) (x : Logged) (k : ℕ) → log_fits cap x.log ≡ true → length x.spans ≡ cap * store_width → k < 12
    → Sound 2 cap (marks_at cap x k).ring
unfolding marks_at
log_sound cap x k e l h =
    let r = log_range cap x.log k e h in
    record {
      some = omega (arith, r.head_in);
      long =
          length-take-le (cap * 2) (drop (k * (cap * 2)) x.spans) (omega (arith, length-drop (k * (cap * 2)) x.spans, part_inside (cap * 2) k h))
          ∙ (let q : cap * 2 ≡ 2 * cap = omega arith in q);
      head_in = r.head_in;
      count_in = r.count_in;
    }

-- ---- the newest span's end

pub end_fits_lem : (cap : ℕ) (r : rules.Ring) → EndsBy cap (2 ^ 49) r → end_fits cap r ≡ true
unfolding end_fits
end_fits_lem cap r h = go (ltb 0 r.count) refl
  where
    go : (b : Bool) → ltb 0 r.count ≡ b → cond b (leb (newest_end cap r) (2 ^ 49)) true ≡ true
    go true e = le-leb (newest_end cap r) (2 ^ 49) (h (ltb-true 0 r.count e))
    go false e = refl

pub ends_fit_lem : (cap : ℕ) (x : Logged) → ((k : ℕ) → k < 12 → EndsBy cap (2 ^ 49) (marks_at cap x k).ring) → ends_fit cap x ≡ true
unfolding ends_fit
ends_fit_lem cap x h = all_of (λ k. end_fits cap (marks_at cap x k).ring) 12 (λ k l. end_fits_lem cap (marks_at cap x k).ring (h k l))

-- ---- marks one after another

pub bounded_fits : (cap b : ℕ) (x : Logged) (k : ℕ) (s : Span) → Bounded cap b x → k < 12 → b + 1 + s.len < 2 ^ 64 → s.start + s.len < 2 ^ 64
    → Fits cap x k s
bounded_fits cap b x k s d h l m =
    record {
      store = d.twelve.store;
      marks =
          record {
            ring = record { sound = d.sound k h; dropped = omega (arith, d.dropped k h) };
            count = omega (arith, d.count k h);
            last = m;
          };
    }

pub marked_bounded : (cap b : ℕ) (x : Logged) (k : ℕ) (s : Span) → Bounded cap b x → k < 12 → Bounded cap (b + 1 + s.len) (marked_at cap x k s)
marked_bounded cap b x k s d h =
    record {
      twelve = marked_twelve cap x k s d.twelve (d.sound k h) h;
      sound = λ j l. at j (ℕ_discrete j k) (λ m. Sound 2 cap m.ring) (mark_sound cap m (d.sound k h) s) (d.sound j l);
      dropped =
          λ j l. at j (ℕ_discrete j k) (λ m. m.ring.dropped ≤ b + 1 + s.len) (omega (arith, mark_drops cap m (d.sound k h) s, d.dropped k h))
          (omega (arith, d.dropped j l));
      count = λ j l. at j (ℕ_discrete j k) (λ m. m.samples ≤ b + 1 + s.len) (omega (arith, mark_samples cap m s, d.count k h)) (omega (arith, d.count j l));
    }
  where
    m : rules.Marks
    m = marks_at cap x k

    at : (j : ℕ) → Dec (j ≡ k) → (P : rules.Marks → Type 0) → P (mark cap m s) → P (marks_at cap x j) → P (marks_at cap (marked_at cap x k s) j)
    at j (yes e) P a o = rw (e, marked_same cap x k s d.twelve (d.sound k h) h) a
    at j (no e) P a o = rw (marked_other cap x k s d.twelve (d.sound k h) h j e) o

pub fresh_bounded : (cap : ℕ) → 0 < cap → Bounded cap 0 (record { log = fresh_log; spans = replicate (cap * store_width) 0 })
unfolding fresh_log
fresh_bounded cap h =
    record {
      twelve = record { marks = refl; store = length-replicate (cap * store_width) 0 };
      sound = λ k l. rw (fresh_marks_at cap k l) (empty_sound 2 cap h);
      dropped = λ k l. rw (fresh_marks_at cap k l) (omega arith);
      count = λ k l. rw (fresh_marks_at cap k l) (omega arith);
    }
