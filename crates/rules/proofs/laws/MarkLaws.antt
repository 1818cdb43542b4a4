-- Marking in a ring of spans: an empty mark is none, two adjacent marks are one; what marks one after another come to. Assumes nothing.
use Rattle.std.specs.Prelude.{◌≡◌, refl, Bool, true, false, cond, ℕ, ◌+◌, ◌*◌, ◌-◌, ◌%◌, ◌≤◌, ◌<◌, eqb, length}
use Rattle.std.proofs.Math.Path.{ap}
use Rattle.std.proofs.Common.{sym, ◌∙◌, mod-lt, lt-ltb, eq-eqb, ltb-true, eqb-true}
use mathlib.Core.List.{List, [], ◌∷◌, foldl}
use native.Mathlib.Omega.{arith}
use Rattle.std.proofs.lemmas.Bool.{eqb-false}
use Rattle.std.proofs.Math.ListN.{get_or, set, length-set}
use Rattle.std.proofs.Math.Seq.{get_or-set_same, get_or-set_other, set-set}
use Rattle.rules.specs.Log.{Ring, write, roomed, next_place, append, Span, span_of, Marks, no_marks, newest_place, start_at, len_at, joins, lengthened, mark}
use Rattle.rules.specs.Log.{marked, Sound, newest_end}
use Rattle.rules.proofs.laws.TestLaws.{both}
use Rattle.rules.specs.Lists.{All}
use Rattle.rules.proofs.laws.RingLaws.{place_fits, roomed_sound, append_sound, append_drops, empty_sound}

-- a mark that is not empty, in the ring: it lengthens the newest span, or is a new one
abbrev pub spanned : ℕ → Ring → ℕ → ℕ → Ring
spanned cap r s n = cond (joins cap r s) (lengthened cap r n) (append cap r (s ∷ n ∷ []))

-- ---- the newest span

-- a ring whose newest span is the one of n samples that ends at e
pub record Newest (cap : ℕ) (r : Ring) (e n : ℕ) : Type 0 where
  pub some : 0 < r.count
  pub ends : newest_end cap r ≡ e
  pub long : n ≤ len_at r (newest_place cap r)

pub joins_at : (cap : ℕ) (r : Ring) (e n : ℕ) → Newest cap r e n → joins cap r e ≡ true
unfolding joins
joins_at cap r e n k = simp (lt-ltb 0 r.count k.some, eq-eqb (newest_end cap r) e k.ends)

pub joins_so : (cap : ℕ) (r : Ring) (s : ℕ) → joins cap r s ≡ true → Newest cap r s 0
unfolding joins
joins_so cap r s e = let h = both _ _ e in record { some = ltb-true 0 _ h.0; ends = eqb-true _ s h.1; long = omega arith }

module _ (cap : ℕ) (r : Ring) (k : Sound 2 cap r) where
  pub newest_fits : newest_place cap r * 2 + 1 < length r.words
  newest_fits = omega (arith, place_fits 2 cap (newest_place cap r) (mod-lt (r.head + (r.count - 1)) k.some), k.long)

  lengthened_newest : (s n : ℕ) → Newest cap r s 0 → Newest cap (lengthened cap r n) (s + n) n
  unfolding lengthened
  lengthened_newest s n h =
      let p = newest_place cap r in
      let l = len_at r p + n in
      let a : get_or (set r.words (p * 2 + 1) l) (p * 2) 0 ≡ start_at r p = get_or-set_other r.words (p * 2 + 1) (p * 2) l 0 (omega arith) in
      let b : get_or (set r.words (p * 2 + 1) l) (p * 2 + 1) 0 ≡ l = get_or-set_same r.words (p * 2 + 1) l 0 newest_fits in
      record { some = h.some; ends = omega (arith, h.ends); long = omega arith }

  lengthened_twice : (a b : ℕ) → lengthened cap (lengthened cap r a) b ≡ lengthened cap r (a + b)
  unfolding lengthened
  lengthened_twice a b =
      let p = newest_place cap r in
      let l = len_at r p + a in
      let e : get_or (set r.words (p * 2 + 1) l) (p * 2 + 1) 0 ≡ l = get_or-set_same r.words (p * 2 + 1) l 0 newest_fits in
      let f : get_or (set r.words (p * 2 + 1) l) (p * 2 + 1) 0 + b ≡ len_at r p + (a + b) = omega arith in
      λ i. record {
        head = r.head;
        count = r.count;
        dropped = r.dropped;
        words = (ap (set (set r.words (p * 2 + 1) l) (p * 2 + 1)) f ∙ set-set r.words (p * 2 + 1) l (len_at r p + (a + b))) i;
      }

  -- the span that was entered is the newest
  append_newest : (s n : ℕ) → newest_place cap (append cap r (s ∷ n ∷ [])) ≡ next_place cap (roomed cap r)
  unfolding append
  append_newest s n = let q = roomed cap r in ap (λ (x : ℕ). (q.head + x) % cap) (let e : q.count + 1 - 1 ≡ q.count = omega arith in e)

  entered_fits : next_place cap (roomed cap r) * 2 + 1 < length (roomed cap r).words
  entered_fits =
      let h = roomed_sound 2 cap r k in
      omega (arith, place_fits 2 cap (next_place cap (roomed cap r)) (mod-lt ((roomed cap r).head + (roomed cap r).count) k.some), h.sound.long)

  -- its start and its length
  entered_start : (s n : ℕ) → let q = append cap r (s ∷ n ∷ []) in start_at q (newest_place cap q) ≡ s
  unfolding write append
  entered_start s n =
      let q = roomed cap r in
      let p = next_place cap q in
      rw (append_newest s n)
      (get_or-set_other (set q.words (p * 2) s) (p * 2 + 1) (p * 2) n 0 (omega arith) ∙ get_or-set_same q.words (p * 2) s 0 (omega (arith, entered_fits)))

  entered_len : (s n : ℕ) → let q = append cap r (s ∷ n ∷ []) in len_at q (newest_place cap q) ≡ n
  unfolding write append
  entered_len s n =
      let q = roomed cap r in
      let p = next_place cap q in
      rw (append_newest s n) (get_or-set_same (set q.words (p * 2) s) (p * 2 + 1) n 0 (simp length-set entered_fits))

  entered_some : (s n : ℕ) → 0 < (append cap r (s ∷ n ∷ [])).count
  unfolding append
  entered_some s n = omega arith

  entered_newest : (s n : ℕ) → Newest cap (append cap r (s ∷ n ∷ [])) (s + n) n
  entered_newest s n = record { some = entered_some s n; ends = omega (arith, entered_start s n, entered_len s n); long = omega (arith, entered_len s n) }

  entered_lengthened : (s a b : ℕ) → lengthened cap (append cap r (s ∷ a ∷ [])) b ≡ append cap r (s ∷ (a + b) ∷ [])
  unfolding write append lengthened
  entered_lengthened s a b =
      let q = roomed cap r in
      let p = next_place cap q in
      let one = set q.words (p * 2) s in
      let both = set one (p * 2 + 1) a in
      λ i. record {
        head = q.head;
        count = q.count + 1;
        dropped = q.dropped;
        words =
            ((λ j. set both (append_newest s a j * 2 + 1) (ap (λ (n : ℕ). n + b) (entered_len s a) j))
            ∙ set-set one (p * 2 + 1) a (a + b)) i;
      }

  pub spanned_newest : (s n : ℕ) → Newest cap (spanned cap r s n) (s + n) n
  spanned_newest s n = go (joins cap r s) refl
    where
      go : (b : Bool) → joins cap r s ≡ b → Newest cap (cond b (lengthened cap r n) (append cap r (s ∷ n ∷ []))) (s + n) n
      go true e = lengthened_newest s n (joins_so cap r s e)
      go false e = entered_newest s n

  -- ---- two adjacent marks are one
  spanned_join : (s a b : ℕ) → spanned cap (spanned cap r s a) (s + a) b ≡ spanned cap r s (a + b)
  spanned_join s a b =
      ap (λ (t : Bool). cond t (lengthened cap (spanned cap r s a) b) (append cap (spanned cap r s a) ((s + a) ∷ b ∷ [])))
      (joins_at cap (spanned cap r s a) (s + a) a (spanned_newest s a))
      ∙ go (joins cap r s)
    where
      go : (t : Bool)
          → lengthened cap (cond t (lengthened cap r a) (append cap r (s ∷ a ∷ []))) b ≡ cond t (lengthened cap r (a + b)) (append cap r (s ∷ (a + b) ∷ []))
      go true = lengthened_twice a b
      go false = entered_lengthened s a b

  lengthened_sound : (n : ℕ) → Sound 2 cap (lengthened cap r n)
  unfolding lengthened
  lengthened_sound n =
      record {
        some = k.some;
        long = length-set r.words (newest_place cap r * 2 + 1) (len_at r (newest_place cap r) + n) ∙ k.long;
        head_in = k.head_in;
        count_in = k.count_in;
      }

  pub spanned_sound : (s n : ℕ) → Sound 2 cap (spanned cap r s n)
  spanned_sound s n = go (joins cap r s)
    where
      go : (t : Bool) → Sound 2 cap (cond t (lengthened cap r n) (append cap r (s ∷ n ∷ [])))
      go true = lengthened_sound n
      go false = append_sound 2 cap r (s ∷ n ∷ []) k

  lengthened_drops : (n : ℕ) → (lengthened cap r n).dropped ≤ r.dropped + 1
  unfolding lengthened
  lengthened_drops n = omega arith

  pub spanned_drops : (s n : ℕ) → (spanned cap r s n).dropped ≤ r.dropped + 1
  spanned_drops s n = go (joins cap r s)
    where
      go : (t : Bool) → (cond t (lengthened cap r n) (append cap r (s ∷ n ∷ []))).dropped ≤ r.dropped + 1
      go true = lengthened_drops n
      go false = append_drops 2 cap r (s ∷ n ∷ []) k

-- ---- a mark

-- 'A mark of length 0 does nothing.'
pub mark_zero : (cap : ℕ) (r : Marks) (s : ℕ) → mark cap r (span_of s 0) ≡ r
unfolding mark
mark_zero cap r s = refl

-- what a mark of some length comes to
abbrev pub grown : ℕ → Marks → Span → Marks
grown cap r m = record { samples = r.samples + m.len; ring = spanned cap r.ring m.start m.len }

-- what holds of both holds of a mark
pub mark_cases : (P : Marks → Type 0) (cap : ℕ) (r : Marks) (m : Span) → (m.len ≡ 0 → P r) → (0 < m.len → P (grown cap r m)) → P (mark cap r m)
unfolding mark
mark_cases P cap r m none some = go (eqb m.len 0) refl
  where
    go : (z : Bool) → eqb m.len 0 ≡ z → P (cond z r (grown cap r m))
    go true e = none (eqb-true _ _ e)
    go false e = some (let h = eqb-false m.len 0 e in omega arith)

pub mark_some : (cap : ℕ) (r : Marks) (m : Span) → 0 < m.len → mark cap r m ≡ grown cap r m
mark_some cap r m h = mark_cases (λ q. q ≡ grown cap r m) cap r m (λ z. absurd (omega arith)) (λ z. refl)

-- 'Another adds its length to its count'
pub mark_samples : (cap : ℕ) (r : Marks) (m : Span) → (mark cap r m).samples ≡ r.samples + m.len
mark_samples cap r m = mark_cases (λ q. q.samples ≡ r.samples + m.len) cap r m (λ z. omega arith) (λ z. refl)

module _ (cap : ℕ) (r : Marks) (k : Sound 2 cap r.ring) where
  -- Marking twice, the second where the first ends, is marking once with the sum.
  pub mark_join : (s a b : ℕ) → mark cap (mark cap r (span_of s a)) (span_of (s + a) b) ≡ mark cap r (span_of s (a + b))
  mark_join s a b =
      mark_cases (λ q. mark cap q (span_of (s + a) b) ≡ mark cap r (span_of s (a + b))) cap r (span_of s a)
      (λ z. let e : s + a ≡ s = omega arith in let f : a + b ≡ b = omega arith in rw (e, f))
      (λ z.
      mark_cases (λ q. q ≡ mark cap r (span_of s (a + b))) cap (grown cap r (span_of s a)) (span_of (s + a) b)
      (λ y. let e : a + b ≡ a = omega arith in rw e (sym (mark_some cap r (span_of s a) z)))
      (λ y.
      let e : r.samples + a + b ≡ r.samples + (a + b) = omega arith in
      (λ i. record { samples = e i; ring = spanned_join cap r.ring k s a b i }) ∙ sym (mark_some cap r (span_of s (a + b)) (omega arith))))

  pub mark_sound : (m : Span) → Sound 2 cap (mark cap r m).ring
  mark_sound m = mark_cases (λ q. Sound 2 cap q.ring) cap r m (λ z. k) (λ z. spanned_sound cap r.ring k m.start m.len)

  pub mark_drops : (m : Span) → (mark cap r m).ring.dropped ≤ r.ring.dropped + 1
  mark_drops m = mark_cases (λ q. q.ring.dropped ≤ r.ring.dropped + 1) cap r m (λ z. omega arith) (λ z. spanned_drops cap r.ring k m.start m.len)

  -- no more spans are dropped than samples are marked
  pub mark_dropped : (m : Span) → r.ring.dropped ≤ r.samples → (mark cap r m).ring.dropped ≤ (mark cap r m).samples
  mark_dropped m h =
      mark_cases (λ q. q.ring.dropped ≤ q.samples) cap r m (λ z. h) (λ z. omega (arith, spanned_drops cap r.ring k m.start m.len))

-- the newest span, if there is one, ends at b or before
abbrev pub EndsBy : ℕ → ℕ → Ring → Type 0
EndsBy cap b r = 0 < r.count → newest_end cap r ≤ b

pub mark_ends : (cap : ℕ) (r : Marks) → Sound 2 cap r.ring → (m : Span) (b : ℕ) → EndsBy cap b r.ring → m.start + m.len ≤ b
    → EndsBy cap b (mark cap r m).ring
mark_ends cap r k m b h f =
    mark_cases (λ q. EndsBy cap b q.ring) cap r m (λ z. h) (λ z y. omega (arith, (spanned_newest cap r.ring k m.start m.len).ends))

-- ---- marks one after another

-- how many samples marks have together
unfoldable pub lengths : List Span → ℕ
lengths [] = 0
lengths (m ∷ ms) = m.len + lengths ms

-- each mark ends at b or before
abbrev pub AllEndBy : ℕ → List Span → Type 0
AllEndBy b ms = All (λ m. m.start + m.len ≤ b) ms

-- what marks from a sound ring keep
pub record Kept (cap : ℕ) (r q : Marks) (ms : List Span) : Type 0 where
  pub sound : Sound 2 cap q.ring
  pub samples : q.samples ≡ r.samples + lengths ms
  pub drops : q.ring.dropped ≤ r.ring.dropped + length ms
  pub dropped : r.ring.dropped ≤ r.samples → q.ring.dropped ≤ q.samples
  pub ends : (b : ℕ) → EndsBy cap b r.ring → AllEndBy b ms → EndsBy cap b q.ring

pub marks_kept : (cap : ℕ) (r : Marks) (ms : List Span) → Sound 2 cap r.ring → Kept cap r (foldl (mark cap) r ms) ms
unfolding lengths
marks_kept cap r [] k = record { sound = k; samples = omega arith; drops = omega arith; dropped = λ h. h; ends = λ b h a. h }
marks_kept cap r (m ∷ ms) k =
    let t = marks_kept cap (mark cap r m) ms (mark_sound cap r k m) in
    record {
      sound = t.sound;
      samples = omega (arith, t.samples, mark_samples cap r m);
      drops = omega (arith, t.drops, mark_drops cap r k m);
      dropped = λ h. t.dropped (mark_dropped cap r k m h);
      ends = λ b h a. t.ends b (mark_ends cap r k m b h a.0) a.1;
    }

pub marked_kept : (cap : ℕ) (ms : List Span) → 0 < cap → Kept cap (no_marks cap) (marked cap ms) ms
unfolding marked
marked_kept cap ms h = marks_kept cap (no_marks cap) ms (empty_sound 2 cap h)

pub marked_sound : (cap : ℕ) (ms : List Span) → 0 < cap → Sound 2 cap (marked cap ms).ring
marked_sound cap ms h = (marked_kept cap ms h).sound

pub marked_samples : (cap : ℕ) (ms : List Span) → 0 < cap → (marked cap ms).samples ≡ lengths ms
marked_samples cap ms h = omega (arith, (marked_kept cap ms h).samples)

pub marked_dropped : (cap : ℕ) (ms : List Span) → 0 < cap → (marked cap ms).ring.dropped ≤ lengths ms
marked_dropped cap ms h = omega (arith, (marked_kept cap ms h).dropped (omega arith), marked_samples cap ms h)

pub marked_ends : (cap : ℕ) (ms : List Span) (b : ℕ) → 0 < cap → AllEndBy b ms → EndsBy cap b (marked cap ms).ring
marked_ends cap ms b h a = (marked_kept cap ms h).ends b (λ z. absurd (omega arith)) a
