-- The view of the log as its rings can be undone; a call marks ring by ring. Assumes nothing.
use Rattle.std.specs.Prelude.{◌≡◌, refl, Bool, List, [], ◌∷◌, ◌++◌, map, eqb, take, drop}
use Rattle.std.proofs.Math.Path.{ap, sym}
use Rattle.std.proofs.Common.{◌∙◌, append-nil, append_assoc, zero-mul, suc-mul, arith, lit<, eq-eqb, ne_eqb}
use Prim.Native.Nat.{ℕ, zero, suc, ◌+◌, ◌*◌, ◌<◌}
use Rattle.std.proofs.Math.Decide.{ℕ_discrete}
use Rattle.std.proofs.Math.ListN.{get_or-map}
use Rattle.std.proofs.Math.Seq.{take_all, ext_get_or}
use Rattle.rules.specs.Iq.{Settled, Off, Observing, Withheld, Correcting}
use Rattle.rules.specs.Mode.{Mode, off, observe, apply}
use Rattle.rules.specs.Log as rules
use Rattle.rules.specs.Log.{Span, mark, no_marks}
use Rattle.rules.specs.Lists.{up_to}
use Rattle.rules.proofs.laws.ListLaws.{length_up_to, get_d_up_to, up_to_same, length-map}
use Rattle.stage_log.specs.View.{Logged, bare_marks, fresh_marks, part_of, marks_at, marked_at, joined, log_of}
use Rattle.stage_log.proofs.laws.LogLaws.{marked_same, marked_other}
use Rattle.stage_log.specs.Ready.{Twelve}
use Rattle.impulse_slice.specs.Noted.{Rings, note_all}
use Rattle.impulse_slice.proofs.laws.NotedRings.{marked_rings, noted_rings, noted_at}
use Rattle.iq.specs.View.{settled_of}
use Rattle.stage_mode.specs.View.{mode_of}
use Rattle.chain.specs.Stages.{Machine, notes_in, impulse_told, released_span, noted_dc, noted_iq, notes_after, logged_after}
use Rattle.one_record.specs.Rings.{rings_of, dc_marks, iq_marks, mark_if, ring_after}

-- ---- the view can be undone

joined_snoc : (ms : List rules.Marks) (m : rules.Marks) → joined (ms ++ (m ∷ [])) ≡ joined ms ++ m.ring.words
unfolding joined
joined_snoc [] m = append-nil m.ring.words
joined_snoc (x ∷ ms) m = ap (λ (l : List ℕ). x.ring.words ++ l) (joined_snoc ms m) ∙ sym (append_assoc x.ring.words (joined ms) m.ring.words)

take_none : {A : Type 0} (k : ℕ) → take {A = A} k [] ≡ []
take_none zero = refl
take_none (suc k) = refl

take_more : {A : Type 0} (a b : ℕ) (l : List A) → take (a + b) l ≡ take a l ++ take b (drop a l)
take_more zero b l = ap (λ (k : ℕ). take k l) (let q : 0 + b ≡ b = omega arith in q)
take_more (suc a) b [] = take_none (suc a + b) ∙ sym (take_none b)
take_more (suc a) b (x ∷ l) = ap (λ (k : ℕ). take k (x ∷ l)) (let q : suc a + b ≡ suc (a + b) = omega arith in q) ∙ ap (λ t. x ∷ t) (take_more a b l)

-- parts one after another
joined_parts : (size : ℕ) (ws : List ℕ) (f : ℕ → rules.Marks) (n : ℕ) → ((k : ℕ) → (f k).ring.words ≡ part_of size ws k) → joined (up_to f n) ≡ take (n * size) ws
unfolding up_to joined
joined_parts size ws f zero h = sym (ap (λ (k : ℕ). take k ws) (zero-mul size))
joined_parts size ws f (suc n) h =
    joined_snoc (up_to f n) (f n)
    ∙ (λ i. joined_parts size ws f n h i ++ h n i)
    ∙ sym (take_more (n * size) size ws)
    ∙ ap (λ (k : ℕ). take k ws) (let q : n * size + size ≡ suc n * size = omega (arith, suc-mul n size) in q)

module _ (cap : ℕ) (x : Logged) (t : Twelve cap x) where
  marks_again : map (λ (m : rules.Marks). bare_marks m) (rings_of cap x) ≡ x.log.marks
  unfolding marks_at
  marks_again =
      let f : rules.Marks → _ = λ (m : rules.Marks). bare_marks m in
      ext_get_or fresh_marks (map f (rings_of cap x)) x.log.marks
      (length-map f (rings_of cap x) ∙ length_up_to (marks_at cap x) 12 ∙ sym t.marks)
      (λ k h. get_or-map f (rings_of cap x) k (no_marks cap)
      ∙ ap f (get_d_up_to (no_marks cap) (marks_at cap x) 12 k (omega (arith, length-map f (rings_of cap x), length_up_to (marks_at cap x) 12))))

  spans_again : joined (rings_of cap x) ≡ x.spans
  unfolding marks_at
  spans_again = joined_parts (cap * 2) x.spans (marks_at cap x) 12 (λ k. refl) ∙ take_all (12 * (cap * 2)) x.spans (omega (arith, t.store))

  pub log_again : log_of (rings_of cap x) ≡ x
  unfolding log_of
  log_again = λ i. record { log = record { marks = marks_again i }; spans = spans_again i }

-- so logs with the same rings are the same
pub same_rings : (cap : ℕ) (x y : Logged) → Twelve cap x → Twelve cap y → ((k : ℕ) → k < 12 → marks_at cap x k ≡ marks_at cap y k) → x ≡ y
same_rings cap x y s t h = sym (log_again cap x s) ∙ ap log_of (up_to_same (marks_at cap x) (marks_at cap y) 12 h) ∙ log_again cap y t

-- ---- a mark, ring by ring

module _ (cap : ℕ) (x : Logged) (j : ℕ) (m : Span) (r : Rings cap x) (h : j < 12) where
  pub marked_at_lem : (k : ℕ) → marks_at cap (marked_at cap x j m) k ≡ mark_if cap (eqb k j) (marks_at cap x k) m
  marked_at_lem k = go (ℕ_discrete k j)
    where
      go : Dec (k ≡ j) → marks_at cap (marked_at cap x j m) k ≡ mark_if cap (eqb k j) (marks_at cap x k) m
      go (yes e) =
          ap (marks_at cap (marked_at cap x j m)) e
          ∙ marked_same cap x j m r.twelve (r.sound j h) h
          ∙ ap (λ (i : ℕ). mark cap (marks_at cap x i) m) (sym e)
          ∙ sym (ap (λ (b : Bool). mark_if cap b (marks_at cap x k) m) (eq-eqb k j e))
      go (no e) = marked_other cap x j m r.twelve (r.sound j h) h k e ∙ sym (ap (λ (b : Bool). mark_if cap b (marks_at cap x k) m) (ne_eqb k j e))

module _ (cap : ℕ) (x : Logged) (m : Span) (r : Rings cap x) where
  dc_rings : (d : Mode) → Rings cap (noted_dc cap d x m)
  dc_rings off = r
  dc_rings observe = r
  dc_rings apply = marked_rings cap x 6 m r (lit< tt)

  dc_at : (d : Mode) (k : ℕ) → marks_at cap (noted_dc cap d x m) k ≡ mark_if cap (dc_marks d k) (marks_at cap x k) m
  dc_at off k = refl
  dc_at observe k = refl
  dc_at apply k = marked_at_lem cap x 6 m r (lit< tt) k

  iq_rings : (s : Settled) → Rings cap (noted_iq cap s x m)
  iq_rings Off = r
  iq_rings Observing = r
  iq_rings Withheld = marked_rings cap x 11 m r (lit< tt)
  iq_rings (Correcting z) = marked_rings cap x 10 m r (lit< tt)

  iq_at_lem : (s : Settled) (k : ℕ) → marks_at cap (noted_iq cap s x m) k ≡ mark_if cap (iq_marks s k) (marks_at cap x k) m
  iq_at_lem Off k = refl
  iq_at_lem Observing k = refl
  iq_at_lem Withheld k = marked_at_lem cap x 11 m r (lit< tt) k
  iq_at_lem (Correcting z) k = marked_at_lem cap x 10 m r (lit< tt) k

-- ---- a call, ring by ring

module _ (m : Machine) (new : List ℕ) (r : Rings m.state.settings.spans (notes_in m).logged) where
  noted : Rings m.state.settings.spans (notes_after m new).logged
  unfolding notes_after
  noted = noted_rings m.state.settings.spans m.state.settings.repairs (notes_in m) (impulse_told m.state new) r

  pub call_rings : Rings m.state.settings.spans (logged_after m new)
  unfolding logged_after
  call_rings =
      let c = m.state in
      let d = mode_of c.settings.dc in
      let s = released_span c new in
      iq_rings c.settings.spans (noted_dc c.settings.spans d (notes_after m new).logged s) s
      (dc_rings c.settings.spans (notes_after m new).logged s noted d) (settled_of c.settings.iq)

  pub call_at : (k : ℕ)
      → marks_at m.state.settings.spans (logged_after m new) k
      ≡ ring_after m.state.settings.spans m.state new k (marks_at m.state.settings.spans (notes_in m).logged k)
  unfolding logged_after notes_after ring_after
  call_at k =
      let c = m.state in
      let n = c.settings.spans in
      let d = mode_of c.settings.dc in
      let q = settled_of c.settings.iq in
      let s = released_span c new in
      let x = (note_all n c.settings.repairs (notes_in m) (impulse_told c new)).logged in
      iq_at_lem n (noted_dc n d x s) s (dc_rings n x s noted d) q k
      ∙ ap (λ (y : rules.Marks). mark_if n (iq_marks q k) y s) (dc_at n x s noted d k)
      ∙ ap (λ (y : rules.Marks). mark_if n (iq_marks q k) (mark_if n (dc_marks d k) y s) s) (noted_at n c.settings.repairs (notes_in m) k (impulse_told c new) r)
