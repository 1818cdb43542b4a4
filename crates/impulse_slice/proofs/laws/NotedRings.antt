-- What events come to, ring by ring: an impulse ring has the marks of its own, every other stands still; the repairs are recorded in order, and the long runs
-- are counted. Assumes nothing.
use Rattle.std.specs.Prelude.{◌≡◌, ℕ, ◌+◌, ◌<◌}
use Rattle.std.proofs.Math.Path.{refl, ap, sym}
use Rattle.std.proofs.Common.{◌∙◌, subst, lit<, ne_eqb}
use mathlib.Core.List.{List, [], ◌∷◌, foldl, foldl-append}
use Rattle.std.proofs.Math.Decide.{ℕ_discrete}
use native.Mathlib.Omega.{arith}
use Rattle.rules.specs.Impulse.{Event, uncertain, kept, mended}
use Rattle.rules.specs.Log as rules
use Rattle.rules.specs.Log.{Span, Mark, ring_number, impulse, Repaired, Flagged, Corrected, Uncertain, span_of, mark, append, marks_of, marks_of_event, repairs_of}
use Rattle.rules.specs.Log.{long_runs, Sound}
use Rattle.rules.proofs.laws.MarkLaws.{mark_sound}
use Rattle.stage_log.specs.View.{Logged, marks_at, marked_at}
use Rattle.stage_log.proofs.laws.LogLaws.{marked_twelve, marked_same, marked_other}
use Rattle.stage_log.specs.Ready.{Bounded}
use Rattle.impulse_slice.specs.Noted.{Noted, note_event, note_all, marks_for, Rings}

pub bounded_rings : (span_capacity b : ℕ) (x : Logged) → Bounded span_capacity b x → Rings span_capacity x
bounded_rings span_capacity b x d = record { twelve = d.twelve; sound = d.sound }

-- ---- a mark

module _ (span_capacity : ℕ) (x : Logged) (k : ℕ) (s : Span) (r : Rings span_capacity x) (h : k < 12) where
  pub marked_rings : Rings span_capacity (marked_at span_capacity x k s)
  marked_rings = record { twelve = marked_twelve span_capacity x k s r.twelve (r.sound k h) h; sound = λ j l. go j l (ℕ_discrete j k) }
    where
      go : (j : ℕ) → j < 12 → Dec (j ≡ k) → Sound 2 span_capacity (marks_at span_capacity (marked_at span_capacity x k s) j).ring
      go j l (yes e) = rw (e, marked_same span_capacity x k s r.twelve (r.sound k h) h) (mark_sound span_capacity (marks_at span_capacity x k) (r.sound k h) s)
      go j l (no e) = rw (marked_other span_capacity x k s r.twelve (r.sound k h) h j e) (r.sound j l)

-- ---- an event

-- the ring that it goes to, and its span
abbrev ring_of : Event → ℕ
ring_of (uncertain j) = 3
ring_of (kept a n long) = 1
ring_of (mended a n os) = 0

abbrev span_in : Event → Span
span_in (uncertain j) = span_of j 1
span_in (kept a n long) = span_of a n
span_in (mended a n os) = span_of a n

few : (e : Event) → ring_of e < 4
few (uncertain j) = lit< tt
few (kept a n long) = lit< tt
few (mended a n os) = lit< tt

module _ (span_capacity repair_capacity : ℕ) where
  event_logged : (x : Noted) (e : Event) → (note_event span_capacity repair_capacity x e).logged ≡ marked_at span_capacity x.logged (ring_of e) (span_in e)
  event_logged x (uncertain j) = refl
  event_logged x (kept a n long) = refl
  event_logged x (mended a n os) = refl

  event_rings : (x : Noted) (e : Event) → Rings span_capacity x.logged → Rings span_capacity (note_event span_capacity repair_capacity x e).logged
  event_rings x e r = rw (event_logged x e) (marked_rings span_capacity x.logged (ring_of e) (span_in e) r (let f = few e in omega arith))

  event_same : (x : Noted) (e : Event) → Rings span_capacity x.logged
      → marks_at span_capacity (note_event span_capacity repair_capacity x e).logged (ring_of e)
      ≡ mark span_capacity (marks_at span_capacity x.logged (ring_of e)) (span_in e)
  event_same x e r =
      let h : ring_of e < 12 = (let f = few e in omega arith) in
      ap (λ (y : Logged). marks_at span_capacity y (ring_of e)) (event_logged x e)
      ∙ marked_same span_capacity x.logged (ring_of e) (span_in e) r.twelve (r.sound (ring_of e) h) h

  event_other : (x : Noted) (e : Event) (k : ℕ) → Rings span_capacity x.logged → (k ≡ ring_of e → ⊥)
      → marks_at span_capacity (note_event span_capacity repair_capacity x e).logged k ≡ marks_at span_capacity x.logged k
  event_other x e k r d =
      let h : ring_of e < 12 = (let f = few e in omega arith) in
      ap (λ (y : Logged). marks_at span_capacity y k) (event_logged x e)
      ∙ marked_other span_capacity x.logged (ring_of e) (span_in e) r.twelve (r.sound (ring_of e) h) h k d

  -- an impulse ring
  event_marks : (x : Noted) (m : Mark) (e : Event) → Rings span_capacity x.logged
      → marks_at span_capacity (note_event span_capacity repair_capacity x e).logged (ring_number impulse m)
      ≡ foldl (mark span_capacity) (marks_at span_capacity x.logged (ring_number impulse m)) (marks_of_event m e)
  event_marks x Repaired (mended a n os) r = event_same x (mended a n os) r
  event_marks x Repaired (kept a n long) r = event_other x (kept a n long) 0 r (λ q. omega arith)
  event_marks x Repaired (uncertain j) r = event_other x (uncertain j) 0 r (λ q. omega arith)
  event_marks x Flagged (mended a n os) r = event_other x (mended a n os) 1 r (λ q. omega arith)
  event_marks x Flagged (kept a n long) r = event_same x (kept a n long) r
  event_marks x Flagged (uncertain j) r = event_other x (uncertain j) 1 r (λ q. omega arith)
  event_marks x Corrected (mended a n os) r = event_other x (mended a n os) 2 r (λ q. omega arith)
  event_marks x Corrected (kept a n long) r = event_other x (kept a n long) 2 r (λ q. omega arith)
  event_marks x Corrected (uncertain j) r = event_other x (uncertain j) 2 r (λ q. omega arith)
  event_marks x Uncertain (mended a n os) r = event_other x (mended a n os) 3 r (λ q. omega arith)
  event_marks x Uncertain (kept a n long) r = event_other x (kept a n long) 3 r (λ q. omega arith)
  event_marks x Uncertain (uncertain j) r = event_same x (uncertain j) r

  -- ---- events one after another

  pub noted_rings : (x : Noted) (es : List Event) → Rings span_capacity x.logged → Rings span_capacity (note_all span_capacity repair_capacity x es).logged
  unfolding note_all
  noted_rings x [] r = r
  noted_rings x (e ∷ es) r = noted_rings (note_event span_capacity repair_capacity x e) es (event_rings x e r)

  pub noted_marks : (x : Noted) (m : Mark) (es : List Event) → Rings span_capacity x.logged
      → marks_at span_capacity (note_all span_capacity repair_capacity x es).logged (ring_number impulse m)
      ≡ foldl (mark span_capacity) (marks_at span_capacity x.logged (ring_number impulse m)) (marks_of m es)
  unfolding note_all marks_of
  noted_marks x m [] r = refl
  noted_marks x m (e ∷ es) r =
      noted_marks (note_event span_capacity repair_capacity x e) m es (event_rings x e r)
      ∙ ap (λ (y : rules.Marks). foldl (mark span_capacity) y (marks_of m es)) (event_marks x m e r)
      ∙ sym (foldl-append (mark span_capacity) (marks_at span_capacity x.logged (ring_number impulse m)) (marks_of_event m e) (marks_of m es))

  -- a ring that no event goes to
  noted_still : (x : Noted) (k : ℕ) (es : List Event) → ((e : Event) → k ≡ ring_of e → ⊥) → Rings span_capacity x.logged
      → marks_at span_capacity (note_all span_capacity repair_capacity x es).logged k ≡ marks_at span_capacity x.logged k
  unfolding note_all
  noted_still x k [] d r = refl
  noted_still x k (e ∷ es) d r = noted_still (note_event span_capacity repair_capacity x e) k es d (event_rings x e r) ∙ event_other x e k r (d e)

  -- any ring, by its number
  pub noted_at : (x : Noted) (k : ℕ) (es : List Event) → Rings span_capacity x.logged
      → marks_at span_capacity (note_all span_capacity repair_capacity x es).logged k
      ≡ foldl (mark span_capacity) (marks_at span_capacity x.logged k) (marks_for k es)
  noted_at x k es r = go (ℕ_discrete k 0) (ℕ_discrete k 1) (ℕ_discrete k 3)
    where
      At : ℕ → Type 0
      At i = marks_at span_capacity (note_all span_capacity repair_capacity x es).logged i
          ≡ foldl (mark span_capacity) (marks_at span_capacity x.logged i) (marks_for i es)

      none : (k ≡ 0 → ⊥) → (k ≡ 1 → ⊥) → (k ≡ 3 → ⊥) → (e : Event) → k ≡ ring_of e → ⊥
      none a b c (mended i n os) q = a q
      none a b c (kept i n long) q = b q
      none a b c (uncertain j) q = c q

      go : Dec (k ≡ 0) → Dec (k ≡ 1) → Dec (k ≡ 3) → At k
      go (yes e) b c = subst At (sym e) (noted_marks x Repaired es r)
      go (no a) (yes e) c = subst At (sym e) (noted_marks x Flagged es r)
      go (no a) (no b) (yes e) = subst At (sym e) (noted_marks x Uncertain es r)
      go (no a) (no b) (no c) = simp (ne_eqb k 0 a, ne_eqb k 1 b, ne_eqb k 3 c) (noted_still x k es (none a b c) r)

  pub noted_repairs : (x : Noted) (es : List Event)
      → (note_all span_capacity repair_capacity x es).repairs ≡ foldl (append repair_capacity) x.repairs (repairs_of es)
  unfolding note_all repairs_of
  noted_repairs x [] = refl
  noted_repairs x (uncertain j ∷ es) = noted_repairs (note_event span_capacity repair_capacity x (uncertain j)) es
  noted_repairs x (kept a n long ∷ es) = noted_repairs (note_event span_capacity repair_capacity x (kept a n long)) es
  noted_repairs x (mended a n os ∷ es) = noted_repairs (note_event span_capacity repair_capacity x (mended a n os)) es

  pub noted_long : (x : Noted) (es : List Event) → (note_all span_capacity repair_capacity x es).longruns ≡ x.longruns + long_runs es
  unfolding note_all long_runs
  noted_long x [] = omega arith
  noted_long x (uncertain j ∷ es) = let r = noted_long (note_event span_capacity repair_capacity x (uncertain j)) es in omega arith
  noted_long x (kept a n long ∷ es) = let r = noted_long (note_event span_capacity repair_capacity x (kept a n long)) es in omega arith
  noted_long x (mended a n os ∷ es) = let r = noted_long (note_event span_capacity repair_capacity x (mended a n os)) es in omega arith
