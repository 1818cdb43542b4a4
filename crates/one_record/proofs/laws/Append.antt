-- A call with xs ++ ys is a call with xs and then one with ys: the chain after it, and what is released. Assumes nothing.
use Rattle.std.specs.Prelude.{◌≡◌, refl, Bool, true, false, cond, ℕ, ◌+◌, ◌-◌, ◌≤◌, ◌<◌, eqb}
use Rattle.std.proofs.Math.Path.{ap, sym}
use Rattle.std.proofs.Common.{◌∙◌, ne_eqb, eqb-true}
use Rattle.std.proofs.lemmas.Bool.{false≢true}
use mathlib.Core.List.{List, [], ◌∷◌, ◌++◌, map, foldl, foldl-append}
use native.Mathlib.Omega.{arith}
use Rattle.std.proofs.Math.ListN.{length, length-append}
use Rattle.rules.specs.Impulse.{Setting, Event}
use Rattle.rules.specs.Iq.{Settled, Off, Observing, Withheld, Correcting, corrected_by}
use Rattle.rules.specs.Mode.{Mode, off, observe, apply}
use Rattle.rules.specs.Log as rules
use Rattle.rules.specs.Log.{Span, span_of, mark, append, repairs_of, long_runs, Sound}
use Rattle.rules.proofs.laws.MarkLaws.{mark_join}
use Rattle.rules.proofs.laws.EventLaws.{marks_append, repairs_append, long_append}
use Rattle.stage_log.specs.View.{marks_at}
use Rattle.stage_log.specs.Ready.{Twelve}
use Rattle.impulse.specs.declared.ImpulseSuppressor.{ImpulseSuppressor}
use Rattle.impulse.specs.Machine.{setting_of}
use Rattle.impulse.specs.Running.{step, emit, news}
use Rattle.impulse.proofs.laws.RunningLaws.{after_append, outs_append}
use Rattle.impulse_slice.specs.Noted.{state_after, handed, told, marks_for, Rings}
use Rattle.impulse_slice.proofs.laws.NotedRings.{noted_repairs, noted_long}
use Rattle.impulse_slice.proofs.laws.StageLaws.{setting_after}
use Rattle.dc.specs.declared.DcBlocker.{DcBlocker}
use Rattle.dc.specs.Blocker.{Blocked}
use Rattle.dc.specs.Blocker.{level_of, blocker_of, blocker_after, after_slice}
use Rattle.dc.proofs.laws.Cutting.{level_append, blocked_append, clamped_append}
use Rattle.iq.specs.View.{settled_of}
use Rattle.stage_mode.specs.View.{mode_of}
use Rattle.chain.specs.Stages.{setting_in, Machine, notes_in, impulse_after, impulse_out, impulse_told, dc_after, blocked_by, hands_on, notes_after, logged_after}
use Rattle.chain.specs.Stages.{counts_after, machine_after, process}
use Rattle.chain.proofs.laws.Processing.{out_most}
use Rattle.one_record.specs.Rings.{dc_marks, iq_marks, mark_if, ring_after}
use Rattle.one_record.proofs.laws.RingLaws.{same_rings, call_rings, call_at}

-- ---- the impulse stage, by whether it runs

abbrev after_by : Bool → Setting → ImpulseSuppressor → List ℕ → ImpulseSuppressor
after_by b s m new = cond b (state_after s m new) m

abbrev out_by : Bool → Setting → ImpulseSuppressor → List ℕ → List ℕ
out_by b s m new = cond b (handed s m new) new

abbrev told_by : Bool → Setting → ImpulseSuppressor → List ℕ → List Event
told_by b s m new = cond b (told s m new) []

setting_by : (b : Bool) (s : Setting) (m : ImpulseSuppressor) (xs : List ℕ) → setting_of (after_by b s m xs).gate ≡ setting_of m.gate
setting_by true s m xs = setting_after s m xs
setting_by false s m xs = refl

after_by_lem : (b : Bool) (s : Setting) (m : ImpulseSuppressor) (xs ys : List ℕ) → after_by b s m (xs ++ ys) ≡ after_by b s (after_by b s m xs) ys
after_by_lem true s m xs ys = after_append (step s) m xs ys
after_by_lem false s m xs ys = refl

out_by_lem : (b : Bool) (s : Setting) (m : ImpulseSuppressor) (xs ys : List ℕ) → out_by b s m (xs ++ ys) ≡ out_by b s m xs ++ out_by b s (after_by b s m xs) ys
out_by_lem true s m xs ys = outs_append (step s) (emit s) m xs ys
out_by_lem false s m xs ys = refl

told_by_lem : (b : Bool) (s : Setting) (m : ImpulseSuppressor) (xs ys : List ℕ) → told_by b s m (xs ++ ys) ≡ told_by b s m xs ++ told_by b s (after_by b s m xs) ys
told_by_lem true s m xs ys = outs_append (step s) (news s) m xs ys
told_by_lem false s m xs ys = refl

-- ---- the DC stage

-- one slice after another
abbrev joined : Blocked → Blocked → Blocked
joined p q = record { blocker = q.blocker; clamped = p.clamped + q.clamped }

running_append : (b : DcBlocker) (xs ys : List ℕ) → after_slice b (xs ++ ys) ≡ joined (after_slice b xs) (after_slice (blocker_after b xs) ys)
running_append b xs ys =
    λ i. record { blocker = blocker_of b.a (level_append b.a (level_of b) xs ys i); clamped = clamped_append b.a (level_of b) xs ys i }

dc_append : (d : Mode) (b : DcBlocker) (xs ys : List ℕ) → dc_after d b (xs ++ ys) ≡ joined (dc_after d b xs) (dc_after d (dc_after d b xs).blocker ys)
dc_append off b xs ys = refl
dc_append observe b xs ys = running_append b xs ys
dc_append apply b xs ys = running_append b xs ys

blocked_by_append : (d : Mode) (b : DcBlocker) (xs ys : List ℕ) → blocked_by d b (xs ++ ys) ≡ blocked_by d b xs ++ blocked_by d (dc_after d b xs).blocker ys
blocked_by_append off b xs ys = refl
blocked_by_append observe b xs ys = refl
blocked_by_append apply b xs ys = blocked_append b.a (level_of b) xs ys

map-append : {A B : Type 0} (f : A → B) (xs ys : List A) → map f (xs ++ ys) ≡ map f xs ++ map f ys
map-append f [] ys = refl
map-append f (x ∷ xs) ys = ap (λ t. f x ∷ t) (map-append f xs ys)

-- ---- one ring

-- no event marks a ring of the other stages
pub others_none : (k : ℕ) (es : List Event) → 4 ≤ k → marks_for k es ≡ []
others_none k es h = let a = ne_eqb k 0 (λ e. omega arith) in let b = ne_eqb k 1 (λ e. omega arith) in let c = ne_eqb k 3 (λ e. omega arith) in simp (a, b, c)

marks_for_append : (k : ℕ) (es fs : List Event) → marks_for k (es ++ fs) ≡ marks_for k es ++ marks_for k fs
marks_for_append k es fs = go (eqb k 0) (eqb k 1) (eqb k 3)
  where
    go : (a b c : Bool)
        → cond a (rules.marks_of rules.Repaired (es ++ fs))
        (cond b (rules.marks_of rules.Flagged (es ++ fs)) (cond c (rules.marks_of rules.Uncertain (es ++ fs)) []))
        ≡ cond a (rules.marks_of rules.Repaired es) (cond b (rules.marks_of rules.Flagged es) (cond c (rules.marks_of rules.Uncertain es) []))
        ++ cond a (rules.marks_of rules.Repaired fs) (cond b (rules.marks_of rules.Flagged fs) (cond c (rules.marks_of rules.Uncertain fs) []))
    go true b c = marks_append rules.Repaired es fs
    go false true c = marks_append rules.Flagged es fs
    go false false true = marks_append rules.Uncertain es fs
    go false false false = refl

-- only one stage marks a ring
dc_late : (d : Mode) (k : ℕ) → dc_marks d k ≡ true → k ≡ 6
dc_late off k e = absurd (false≢true e)
dc_late observe k e = absurd (false≢true e)
dc_late apply k e = eqb-true k 6 e

iq_late : (s : Settled) (k : ℕ) → iq_marks s k ≡ true → 10 ≤ k
iq_late Off k e = absurd (false≢true e)
iq_late Observing k e = absurd (false≢true e)
iq_late Withheld k e = let h = eqb-true k 11 e in omega arith
iq_late (Correcting z) k e = let h = eqb-true k 10 e in omega arith

not_both : (s : Settled) (k : ℕ) → k ≡ 6 → iq_marks s k ≡ false
not_both Off k e = refl
not_both Observing k e = refl
not_both Withheld k e = ne_eqb k 11 (λ h. omega arith)
not_both (Correcting z) k e = ne_eqb k 10 (λ h. omega arith)

module _ (cap : ℕ) (q : rules.Marks) (k : Sound 2 cap q.ring) (es fs : List Span) (rel a b : ℕ) where
  join_ring : (d i : Bool) → (d ≡ true → (es ≡ []) × ((fs ≡ []) × (i ≡ false))) → (i ≡ true → (es ≡ []) × (fs ≡ []))
      → mark_if cap i (mark_if cap d (foldl (mark cap) q (es ++ fs)) (span_of rel (a + b))) (span_of rel (a + b))
      ≡ mark_if cap i
      (mark_if cap d (foldl (mark cap) (mark_if cap i (mark_if cap d (foldl (mark cap) q es) (span_of rel a)) (span_of rel a)) fs) (span_of (rel + a) b))
      (span_of (rel + a) b)
  join_ring false false f g = foldl-append (mark cap) q es fs
  join_ring true true f g = absurd (false≢true (sym (f refl).1.1))
  join_ring true false f g = both (f refl).0 (f refl).1.0
    where
      both : es ≡ [] → fs ≡ []
          → mark cap (foldl (mark cap) q (es ++ fs)) (span_of rel (a + b))
          ≡ mark cap (foldl (mark cap) (mark cap (foldl (mark cap) q es) (span_of rel a)) fs) (span_of (rel + a) b)
      both x y = rw (x, y) (sym (mark_join cap q k rel a b))
  join_ring false true f g = both (g refl).0 (g refl).1
    where
      both : es ≡ [] → fs ≡ []
          → mark cap (foldl (mark cap) q (es ++ fs)) (span_of rel (a + b))
          ≡ mark cap (foldl (mark cap) (mark cap (foldl (mark cap) q es) (span_of rel a)) fs) (span_of (rel + a) b)
      both x y = rw (x, y) (sym (mark_join cap q k rel a b))

-- ---- the chain after xs, and what it makes of ys

module _ (m : Machine) (xs ys : List ℕ) where
  pub setting_same : setting_in (process m xs).state ≡ setting_in m.state
  unfolding process impulse_after
  setting_same = setting_by m.state.settings.impulse (setting_in m.state) m.state.suppressor xs

  pub suppressor_append : impulse_after m.state (xs ++ ys) ≡ impulse_after (process m xs).state ys
  unfolding process impulse_after
  suppressor_append =
      let c = m.state in
      after_by_lem c.settings.impulse (setting_in c) c.suppressor xs ys
      ∙ ap (λ (s : Setting). after_by c.settings.impulse s (after_by c.settings.impulse (setting_in c) c.suppressor xs) ys) (sym setting_same)

  pub out_append : impulse_out m.state (xs ++ ys) ≡ impulse_out m.state xs ++ impulse_out (process m xs).state ys
  unfolding process impulse_after impulse_out
  out_append =
      let c = m.state in
      let b = c.settings.impulse in
      out_by_lem b (setting_in c) c.suppressor xs ys
      ∙ ap (λ (s : Setting). out_by b (setting_in c) c.suppressor xs ++ out_by b s (after_by b (setting_in c) c.suppressor xs) ys) (sym setting_same)

  pub told_append : impulse_told m.state (xs ++ ys) ≡ impulse_told m.state xs ++ impulse_told (process m xs).state ys
  unfolding process impulse_after impulse_told
  told_append =
      let c = m.state in
      let b = c.settings.impulse in
      told_by_lem b (setting_in c) c.suppressor xs ys
      ∙ ap (λ (s : Setting). told_by b (setting_in c) c.suppressor xs ++ told_by b s (after_by b (setting_in c) c.suppressor xs) ys) (sym setting_same)

  dc_same : let d = mode_of m.state.settings.dc in
      dc_after d m.state.blocker (impulse_out m.state (xs ++ ys))
      ≡ joined (dc_after d m.state.blocker (impulse_out m.state xs)) (dc_after d (process m xs).state.blocker (impulse_out (process m xs).state ys))
  unfolding process
  dc_same =
      let c = m.state in
      let d = mode_of c.settings.dc in
      ap (dc_after d c.blocker) out_append ∙ dc_append d c.blocker (impulse_out c xs) (impulse_out (process m xs).state ys)

  -- what is released
  pub hands_append : hands_on m.state (xs ++ ys) ≡ hands_on m.state xs ++ hands_on (process m xs).state ys
  unfolding process hands_on
  hands_append =
      let c = m.state in
      let d = mode_of c.settings.dc in
      let f = corrected_by (settled_of c.settings.iq) in
      let us = impulse_out c xs in
      let vs = impulse_out (process m xs).state ys in
      ap (λ (l : List ℕ). map f (blocked_by d c.blocker l)) out_append
      ∙ ap (map f) (blocked_by_append d c.blocker us vs)
      ∙ map-append f (blocked_by d c.blocker us) (blocked_by d (dc_after d c.blocker us).blocker vs)

  out_length : length (impulse_out m.state (xs ++ ys)) ≡ length (impulse_out m.state xs) + length (impulse_out (process m xs).state ys)
  out_length = ap length out_append ∙ length-append (impulse_out m.state xs) (impulse_out (process m xs).state ys)

  -- ---- the repairs and the long runs

  repairs_same : (notes_after m (xs ++ ys)).repairs ≡ (notes_after (process m xs) ys).repairs
  unfolding process notes_after
  repairs_same =
      let c = m.state in
      let cap = c.settings.spans in
      let room = c.settings.repairs in
      let es = impulse_told c xs in
      let fs = impulse_told (process m xs).state ys in
      noted_repairs cap room (notes_in m) (impulse_told c (xs ++ ys))
      ∙ ap (λ (l : List Event). foldl (append room) (notes_in m).repairs (repairs_of l)) told_append
      ∙ ap (foldl (append room) (notes_in m).repairs) (repairs_append es fs)
      ∙ foldl-append (append room) (notes_in m).repairs (repairs_of es) (repairs_of fs)
      ∙ ap (λ (r : rules.Ring). foldl (append room) r (repairs_of fs)) (sym (noted_repairs cap room (notes_in m) es))
      ∙ sym (noted_repairs cap room (notes_in (process m xs)) fs)

  long_same : (notes_after m (xs ++ ys)).longruns ≡ (notes_after (process m xs) ys).longruns
  unfolding process notes_after
  long_same =
      let c = m.state in
      let cap = c.settings.spans in
      let room = c.settings.repairs in
      let es = impulse_told c xs in
      let fs = impulse_told (process m xs).state ys in
      let a = noted_long cap room (notes_in m) (impulse_told c (xs ++ ys)) in
      let b = noted_long cap room (notes_in m) es in
      let d = noted_long cap room (notes_in (process m xs)) fs in
      let t = ap long_runs told_append ∙ long_append es fs in
      omega (arith, a, b, d, t)

  -- ---- the rings

  module _ (r : Rings m.state.settings.spans (notes_in m).logged) where
    rings_next : Rings m.state.settings.spans (notes_in (process m xs)).logged
    unfolding process
    rings_next = call_rings m xs r

    ring_same : (k : ℕ) → k < 12
        → marks_at m.state.settings.spans (logged_after m (xs ++ ys)) k ≡ marks_at m.state.settings.spans (logged_after (process m xs) ys) k
    unfolding process ring_after
    ring_same k h =
        let c = m.state in
        let n = c.settings.spans in
        let d = dc_marks (mode_of c.settings.dc) k in
        let i = iq_marks (settled_of c.settings.iq) k in
        let q = marks_at n (notes_in m).logged k in
        let es = impulse_told c xs in
        let fs = impulse_told (process m xs).state ys in
        let a = length (impulse_out c xs) in
        let b = length (impulse_out (process m xs).state ys) in
        call_at m (xs ++ ys) r k
        ∙ (λ j. mark_if n i (mark_if n d (foldl (mark n) q (marks_for k (told_append j))) (span_of c.counts.released (out_length j)))
        (span_of c.counts.released (out_length j)))
        ∙ ap (λ (l : List Span). mark_if n i (mark_if n d (foldl (mark n) q l) (span_of c.counts.released (a + b))) (span_of c.counts.released (a + b)))
        (marks_for_append k es fs)
        ∙ join_ring n q (r.sound k h) (marks_for k es) (marks_for k fs) c.counts.released a b d i
        (λ e.
        let l = dc_late (mode_of c.settings.dc) k e in
        let late : 4 ≤ k = omega arith in
        (others_none k es late, (others_none k fs late, not_both (settled_of c.settings.iq) k l)))
        (λ e. let l = iq_late (settled_of c.settings.iq) k e in let late : 4 ≤ k = omega arith in (others_none k es late, others_none k fs late))
        ∙ ap (λ (y : rules.Marks). mark_if n i (mark_if n d (foldl (mark n) y (marks_for k fs)) (span_of (c.counts.released + a) b))
        (span_of (c.counts.released + a) b)) (sym (call_at m xs r k))
        ∙ sym (call_at (process m xs) ys rings_next k)

    next_twelve : Twelve m.state.settings.spans (logged_after (process m xs) ys)
    unfolding process
    next_twelve = (call_rings (process m xs) ys rings_next).twelve

    logged_same : logged_after m (xs ++ ys) ≡ logged_after (process m xs) ys
    logged_same =
        same_rings m.state.settings.spans (logged_after m (xs ++ ys)) (logged_after (process m xs) ys)
        (call_rings m (xs ++ ys) r).twelve next_twelve ring_same

    -- the chain
    pub process_append : process m (xs ++ ys) ≡ process (process m xs) ys
    unfolding process
    process_append =
        let c = m.state in
        let n = length-append xs ys in
        let next = (process m xs).state in
        let d = mode_of c.settings.dc in
        let a = out_most c xs in
        let o = out_length in
        let k = ap (λ (b : Blocked). b.clamped) dc_same in
        let q : (c.counts.seen + length (xs ++ ys) ≡ c.counts.seen + length xs + length ys)
        × (c.counts.released + length (impulse_out c (xs ++ ys))
        ≡ c.counts.released + length (impulse_out c xs) + length (impulse_out (process m xs).state ys))
        × (c.counts.held + length (xs ++ ys) - length (impulse_out c (xs ++ ys))
        ≡ c.counts.held + length xs - length (impulse_out c xs) + length ys - length (impulse_out (process m xs).state ys))
        × (c.counts.clamped + (dc_after d c.blocker (impulse_out c (xs ++ ys))).clamped
        ≡ c.counts.clamped + (dc_after d c.blocker (impulse_out c xs)).clamped + (dc_after d next.blocker (impulse_out next ys)).clamped)
        = (omega arith, omega arith, omega arith, omega arith) in
        let counts : counts_after c (length (xs ++ ys)) (length (impulse_out c (xs ++ ys))) (dc_after d c.blocker (impulse_out c (xs ++ ys))).clamped
        ≡ counts_after next (length ys) (length (impulse_out next ys)) (dc_after d next.blocker (impulse_out next ys)).clamped
        = λ i. record { seen = q.0 i; released = q.1 i; held = q.2 i; clamped = q.3 i } in
        λ i. machine_after c (counts i) (suppressor_append i) (dc_same i).blocker (logged_same i) (repairs_same i) (long_same i)
