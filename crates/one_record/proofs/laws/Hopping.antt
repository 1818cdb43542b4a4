-- What hops move beside what calls move: the monitor, and while observing the ring of uncertain IQ spans. A call leaves it alone. Assumes nothing.
use Rattle.std.specs.Prelude.{◌≡◌, Bool, true, false, ℕ}
use Rattle.std.proofs.Math.Path.{refl, ap, sym, subst}
use Rattle.std.proofs.Common.{◌∙◌, lit<, ne_eqb}
use Rattle.std.proofs.lemmas.Bool.{false≢true}
use mathlib.Core.List.{List, [], ◌∷◌, foldl}
use Rattle.std.proofs.Math.Decide.{ℕ_discrete}
use Rattle.rules.specs.Iq.{Settled, Off, Observing, Withheld, Correcting}
use Rattle.rules.specs.Mode.{Mode, off, observe, apply}
use Rattle.rules.specs.Log as rules
use Rattle.rules.specs.Log.{Span, mark}
use Rattle.stage_log.specs.View.{Logged, marks_at}
use Rattle.stage_log.specs.Ready.{Twelve}
use Rattle.iq_monitor.specs.declared.ImageMonitor.{ImageMonitor}
use Rattle.impulse_slice.specs.Noted.{marks_for, Rings}
use Rattle.impulse_slice.proofs.laws.NotedRings.{marked_rings, noted_repairs, noted_long}
use Rattle.iq.specs.View.{settled_of}
use Rattle.stage_mode.specs.View.{mode_of}
use Rattle.chain.specs.Stages.{Machine, notes_in, impulse_after, impulse_out, impulse_told, released_span, notes_after, logged_after, machine_after, process, hands_on}
use Rattle.chain_state.specs.declared.InputConditioner.{InputConditioner}
use Rattle.chain_state.specs.Changed.{after_hop}
use Rattle.chain_hop.specs.Hops.{uncertain, is_observing}
use Rattle.one_record.specs.Rings.{dc_marks, iq_marks, mark_if, ring_after}
use Rattle.one_record.proofs.laws.RingLaws.{same_rings, marked_at_lem, call_rings, call_at}

-- the chain with a monitor and with marks in the ring of uncertain IQ spans
abbrev pub hop_logged : Machine → List Span → Logged
hop_logged m ms = foldl (uncertain m.state.settings.spans) (notes_in m).logged ms

unfoldable pub with_hops : Machine → ImageMonitor → List Span → Machine
with_hops m monitor ms = record { state = after_hop m.state monitor (hop_logged m ms).log; spans = (hop_logged m ms).spans; repairs = m.repairs }

-- ---- the ring, and the others

module _ (cap : ℕ) where
  pub uncertain_rings : (x : Logged) (ms : List Span) → Rings cap x → Rings cap (foldl (uncertain cap) x ms)
  uncertain_rings x [] r = r
  uncertain_rings x (m ∷ ms) r = uncertain_rings (uncertain cap x m) ms (marked_rings cap x 11 m r (lit< tt))

  -- that ring gets the marks
  pub uncertain_own : (x : Logged) (ms : List Span) → Rings cap x → marks_at cap (foldl (uncertain cap) x ms) 11 ≡ foldl (mark cap) (marks_at cap x 11) ms
  uncertain_own x [] r = refl
  uncertain_own x (m ∷ ms) r =
      uncertain_own (uncertain cap x m) ms (marked_rings cap x 11 m r (lit< tt))
      ∙ ap (λ (q : rules.Marks). foldl (mark cap) q ms) (marked_at_lem cap x 11 m r (lit< tt) 11)

  -- and no other
  pub uncertain_other : (x : Logged) (ms : List Span) (k : ℕ) → (k ≡ 11 → ⊥) → Rings cap x → marks_at cap (foldl (uncertain cap) x ms) k ≡ marks_at cap x k
  uncertain_other x [] k d r = refl
  uncertain_other x (m ∷ ms) k d r =
      uncertain_other (uncertain cap x m) ms k d (marked_rings cap x 11 m r (lit< tt))
      ∙ marked_at_lem cap x 11 m r (lit< tt) k
      ∙ ap (λ (b : Bool). mark_if cap b (marks_at cap x k) m) (ne_eqb k 11 d)

-- ---- a call leaves it alone

dc_not_last : (d : Mode) → dc_marks d 11 ≡ false
dc_not_last off = refl
dc_not_last observe = refl
dc_not_last apply = refl

iq_not_last : (s : Settled) → is_observing s ≡ true → iq_marks s 11 ≡ false
iq_not_last Off e = refl
iq_not_last Observing e = refl
iq_not_last Withheld e = absurd (false≢true e)
iq_not_last (Correcting r) e = refl

-- no stage marks that ring while IQ observes
ring_still : (cap : ℕ) (c : InputConditioner) (new : List ℕ) (q : rules.Marks) → is_observing (settled_of c.settings.iq) ≡ true → ring_after cap c new 11 q ≡ q
unfolding ring_after
ring_still cap c new q e =
    (λ i. mark_if cap (iq_not_last (settled_of c.settings.iq) e i)
    (mark_if cap (dc_not_last (mode_of c.settings.dc) i) (foldl (mark cap) q (marks_for 11 (impulse_told c new))) (released_span c new))
    (released_span c new))

module _ (m : Machine) (monitor : ImageMonitor) (ms : List Span) (new : List ℕ) (r : Rings m.state.settings.spans (notes_in m).logged)
    (only : is_observing (settled_of m.state.settings.iq) ≡ false → ms ≡ []) where
  hop_rings : Rings m.state.settings.spans (notes_in (with_hops m monitor ms)).logged
  unfolding with_hops
  hop_rings = uncertain_rings m.state.settings.spans (notes_in m).logged ms r

  last_ring : ring_after m.state.settings.spans m.state new 11 (marks_at m.state.settings.spans (hop_logged m ms) 11)
      ≡ marks_at m.state.settings.spans (foldl (uncertain m.state.settings.spans) (logged_after m new) ms) 11
  last_ring = go (is_observing (settled_of m.state.settings.iq)) refl
    where
      go : (b : Bool) → is_observing (settled_of m.state.settings.iq) ≡ b
          → ring_after m.state.settings.spans m.state new 11 (marks_at m.state.settings.spans (hop_logged m ms) 11)
          ≡ marks_at m.state.settings.spans (foldl (uncertain m.state.settings.spans) (logged_after m new) ms) 11
      go true e =
          let cap = m.state.settings.spans in
          ring_still cap m.state new (marks_at cap (hop_logged m ms) 11) e
          ∙ uncertain_own cap (notes_in m).logged ms r
          ∙ ap (λ (q : rules.Marks). foldl (mark cap) q ms)
          (sym (ring_still cap m.state new (marks_at cap (notes_in m).logged 11) e) ∙ sym (call_at m new r 11))
          ∙ sym (uncertain_own cap (logged_after m new) ms (call_rings m new r))
      go false e =
          let cap = m.state.settings.spans in
          ap (λ (l : List Span). ring_after cap m.state new 11 (marks_at cap (hop_logged m l) 11)) (only e)
          ∙ sym (call_at m new r 11)
          ∙ ap (λ (l : List Span). marks_at cap (foldl (uncertain cap) (logged_after m new) l) 11) (sym (only e))

  ring_same : (k : ℕ) → marks_at m.state.settings.spans (logged_after (with_hops m monitor ms) new) k
      ≡ marks_at m.state.settings.spans (foldl (uncertain m.state.settings.spans) (logged_after m new) ms) k
  unfolding with_hops ring_after impulse_told impulse_out
  ring_same k = call_at (with_hops m monitor ms) new hop_rings k ∙ go (ℕ_discrete k 11)
    where
      go : Dec (k ≡ 11) → ring_after m.state.settings.spans m.state new k (marks_at m.state.settings.spans (hop_logged m ms) k)
          ≡ marks_at m.state.settings.spans (foldl (uncertain m.state.settings.spans) (logged_after m new) ms) k
      go (yes e) =
          subst (λ (j : ℕ). ring_after m.state.settings.spans m.state new j (marks_at m.state.settings.spans (hop_logged m ms) j)
          ≡ marks_at m.state.settings.spans (foldl (uncertain m.state.settings.spans) (logged_after m new) ms) j) (sym e) last_ring
      go (no d) =
          let cap = m.state.settings.spans in
          ap (ring_after cap m.state new k) (uncertain_other cap (notes_in m).logged ms k d r)
          ∙ sym (call_at m new r k)
          ∙ sym (uncertain_other cap (logged_after m new) ms k d (call_rings m new r))

  hop_twelve : Twelve m.state.settings.spans (logged_after (with_hops m monitor ms) new)
  unfolding with_hops
  hop_twelve = (call_rings (with_hops m monitor ms) new hop_rings).twelve

  logged_hops : logged_after (with_hops m monitor ms) new ≡ foldl (uncertain m.state.settings.spans) (logged_after m new) ms
  logged_hops =
      let cap = m.state.settings.spans in
      same_rings cap (logged_after (with_hops m monitor ms) new) (foldl (uncertain cap) (logged_after m new) ms) hop_twelve
      (uncertain_rings cap (logged_after m new) ms (call_rings m new r)).twelve (λ k h. ring_same k)

  repairs_hops : (notes_after (with_hops m monitor ms) new).repairs ≡ (notes_after m new).repairs
  unfolding with_hops notes_after impulse_told
  repairs_hops =
      let c = m.state in
      noted_repairs c.settings.spans c.settings.repairs (notes_in (with_hops m monitor ms)) (impulse_told c new)
      ∙ sym (noted_repairs c.settings.spans c.settings.repairs (notes_in m) (impulse_told c new))

  long_hops : (notes_after (with_hops m monitor ms) new).longruns ≡ (notes_after m new).longruns
  unfolding with_hops notes_after impulse_told
  long_hops =
      let c = m.state in
      noted_long c.settings.spans c.settings.repairs (notes_in (with_hops m monitor ms)) (impulse_told c new)
      ∙ sym (noted_long c.settings.spans c.settings.repairs (notes_in m) (impulse_told c new))

  pub process_hops : process (with_hops m monitor ms) new ≡ with_hops (process m new) monitor ms
  unfolding process with_hops impulse_after impulse_out
  process_hops =
      let c = (with_hops m monitor ms).state in
      let after = (process m new).state in
      λ i. machine_after c after.counts after.suppressor after.blocker (logged_hops i) (repairs_hops i) (long_hops i)

  pub hands_hops : hands_on (with_hops m monitor ms).state new ≡ hands_on m.state new
  unfolding with_hops hands_on impulse_out
  hands_hops = refl
