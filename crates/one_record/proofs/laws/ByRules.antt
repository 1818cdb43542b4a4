-- The chain after samples and hops is what the rules give for the whole input. Assumes nothing.
use Rattle.std.specs.Prelude.{◌≡◌, Bool, ℕ, ◌*◌, ◌≤◌, ◌<◌, length}
use Rattle.std.proofs.Math.Path.{refl, ap}
use Rattle.std.proofs.Common.{sym, ◌∙◌, lit<, lit≤, ne_eqb}
use Rattle.std.proofs.Math.Bool.{true, false, cond}
use mathlib.Core.List.{List, [], ◌∷◌, map, foldl}
use native.Mathlib.Omega.{arith}
use Rattle.std.proofs.Math.ListN.{replicate}
use Rattle.rules.specs.Impulse.{Offered, block_length, Event, uncertain, kept, mended}
use Rattle.rules.specs.Dc.{corner, first_level, level_after, blocked_all, clamped_steps}
use Rattle.rules.specs.Iq.{Settled, Off, Observing, Withheld, Correcting, corrected_by}
use Rattle.rules.specs.Mode.{Mode, off, observe, apply, is_apply, runs}
use Rattle.rules.specs.Log as rules
use Rattle.rules.specs.Log.{Stage, impulse, dc, iq, Mark, Repaired, Flagged, Corrected, Uncertain, ring_number, Span, span_of, mark, no_marks, marked, marks_of}
use Rattle.rules.specs.Log.{repaired, repairs_of, long_runs, repair_width, store_width}
use Rattle.rules.specs.Chain.{setting_of, impulse_events, after_impulse, after_dc, settled_by, released, clamped_of, ring_of, repair_ring, long_runs_of, evidence}
use Rattle.stage_log.specs.View.{fresh_log, marks_at}
use Rattle.stage_log.proofs.laws.LogLaws.{fresh_marks_at}
use Rattle.impulse.specs.declared.ImpulseSuppressor.{ImpulseSuppressor}
use Rattle.impulse.specs.Machine.{fresh}
use Rattle.impulse.proofs.laws.Theorem.{state_of}
use Rattle.impulse.proofs.laws.Stage.{stage}
use Rattle.rules.specs.Guard.{Usable}
use Rattle.impulse_slice.proofs.laws.NotedRings.{noted_repairs, noted_long}
use Rattle.dc.specs.declared.DcBlocker.{DcBlocker}
use Rattle.dc.specs.Blocker.{blocker_of}
use Rattle.iq.specs.View.{settled_of}
use Rattle.stage_mode.specs.View.{mode_of}
use Rattle.chain_config.specs.declared.ConditioningConfig.{ConditioningConfig}
use Rattle.chain_config.specs.Config.{config_of}
use Rattle.chain_make.specs.Making.{fresh_state, fresh_settings}
use Rattle.chain_make.proofs.laws.MakingLaws.{settled_again}
use Rattle.chain.specs.Stages.{notes_in, impulse_after, impulse_out, impulse_told, dc_after, blocked_by, hands_on, notes_after, released_span, logged_after}
use Rattle.chain.specs.Stages.{process}
use Rattle.rules.specs.Monitor.{Hop, suspected_spans}
use Rattle.rules.specs.Chain as chain
use Rattle.chain_hop.specs.Hops.{is_observing}
use Rattle.impulse_slice.specs.Noted.{marks_for}
use Rattle.chain.proofs.laws.Processing.{hands_length}
use Rattle.one_record.specs.Rings.{dc_marks, iq_marks, mark_if, ring_after}
use Rattle.one_record.proofs.laws.RingLaws.{call_rings, call_at}
use Rattle.one_record.proofs.laws.Append.{others_none}
use Rattle.one_record.proofs.laws.Hopping.{hop_logged, uncertain_own, uncertain_other}
use Rattle.one_record.proofs.laws.Reaching.{fresh_machine, hop_marks, core, fresh_rings}

-- the rings that the DC and the IQ stage leave alone
dc_only : (d : Mode) (k : ℕ) → (k ≡ 6 → ⊥) → dc_marks d k ≡ false
dc_only off k h = refl
dc_only observe k h = refl
dc_only apply k h = ne_eqb k 6 h

dc_own : (d : Mode) → dc_marks d 6 ≡ is_apply d
dc_own off = refl
dc_own observe = refl
dc_own apply = refl

iq_early : (s : Settled) (k : ℕ) → k < 8 → iq_marks s k ≡ false
iq_early Off k h = refl
iq_early Observing k h = refl
iq_early Withheld k h = ne_eqb k 11 (λ e. omega arith)
iq_early (Correcting r) k h = ne_eqb k 10 (λ e. omega arith)

module _ (g : ConditioningConfig) (blocks : 0 < block_length g.fs) (xs : List ℕ) (u : Usable xs) where
  offered : Offered (setting_of (config_of g))
  offered = record { shortest = lit≤ tt; longest = lit≤ tt; trims = refl; least = lit≤ tt; most = lit≤ tt; blocks = blocks }

  -- ---- the impulse stage

  pub impulse_out_lem : impulse_out (fresh_state g) xs ≡ after_impulse (config_of g) xs
  unfolding impulse_out after_impulse fresh_state fresh_settings
  impulse_out_lem = ap (λ (l : List ℕ). cond (runs (mode_of g.impulse)) l xs) (stage (setting_of (config_of g)) offered g.edition xs u).hands_on

  pub impulse_told_lem : impulse_told (fresh_state g) xs ≡ impulse_events (config_of g) xs
  unfolding impulse_told impulse_events fresh_state fresh_settings
  impulse_told_lem = ap (λ (l : List Event). cond (runs (mode_of g.impulse)) l []) (stage (setting_of (config_of g)) offered g.edition xs u).tells

  pub impulse_state : impulse_after (fresh_state g) xs
      ≡ cond (runs (mode_of g.impulse)) (state_of (setting_of (config_of g)) g.edition xs) (fresh (setting_of (config_of g)) g.edition)
  unfolding impulse_after fresh_state fresh_settings
  impulse_state =
      ap (λ (m : ImpulseSuppressor). cond (runs (mode_of g.impulse)) m (fresh (setting_of (config_of g)) g.edition)) (stage (setting_of (config_of g)) offered g.edition xs u).stands

  -- ---- the DC stage

  abbrev level : DcBlocker
  level = blocker_of (corner g.fs) (level_after (corner g.fs) first_level (after_impulse (config_of g) xs))

  blocker_by : (d : Mode)
      → (dc_after d (blocker_of (corner g.fs) first_level) (after_impulse (config_of g) xs)).blocker ≡ cond (runs d) level (blocker_of (corner g.fs) first_level)
  blocker_by off = refl
  blocker_by observe = refl
  blocker_by apply = refl

  pub dc_state : (dc_after (mode_of g.dc) (blocker_of (corner g.fs) first_level) (impulse_out (fresh_state g) xs)).blocker
      ≡ cond (runs (mode_of g.dc)) level (blocker_of (corner g.fs) first_level)
  dc_state = ap (λ (l : List ℕ). (dc_after (mode_of g.dc) (blocker_of (corner g.fs) first_level) l).blocker) impulse_out_lem ∙ blocker_by (mode_of g.dc)

  clamped_by_lem : (d : Mode)
      → (dc_after d (blocker_of (corner g.fs) first_level) (after_impulse (config_of g) xs)).clamped
      ≡ cond (runs d) (clamped_steps (corner g.fs) first_level (after_impulse (config_of g) xs)) 0
  clamped_by_lem off = refl
  clamped_by_lem observe = refl
  clamped_by_lem apply = refl

  pub dc_clamped : (dc_after (mode_of g.dc) (blocker_of (corner g.fs) first_level) (impulse_out (fresh_state g) xs)).clamped ≡ clamped_of (config_of g) xs
  unfolding clamped_of
  dc_clamped = ap (λ (l : List ℕ). (dc_after (mode_of g.dc) (blocker_of (corner g.fs) first_level) l).clamped) impulse_out_lem ∙ clamped_by_lem (mode_of g.dc)

  blocked_is : (d : Mode)
      → blocked_by d (blocker_of (corner g.fs) first_level) (after_impulse (config_of g) xs)
      ≡ cond (is_apply d) (blocked_all (corner g.fs) first_level (after_impulse (config_of g) xs)) (after_impulse (config_of g) xs)
  blocked_is off = refl
  blocked_is observe = refl
  blocked_is apply = refl

  -- ---- what is released

  pub released_is : hands_on (fresh_state g) xs ≡ released (config_of g) xs
  unfolding hands_on released after_dc fresh_state fresh_settings
  released_is =
      let s = settled_by (config_of g) in
      let b = blocker_of (corner g.fs) first_level in
      ap (λ (t : Settled). map (corrected_by t) (blocked_by (mode_of g.dc) b (impulse_out (fresh_state g) xs))) (settled_again s)
      ∙ ap (λ (l : List ℕ). map (corrected_by s) (blocked_by (mode_of g.dc) b l)) impulse_out_lem
      ∙ ap (map (corrected_by s)) (blocked_is (mode_of g.dc))

  -- ---- repairs and long runs

  pub repairs_is : (notes_after (fresh_machine g) xs).repairs ≡ repair_ring (config_of g) xs
  unfolding notes_after repair_ring repaired fresh_state fresh_settings
  repairs_is =
      noted_repairs g.spans g.repairs (notes_in (fresh_machine g)) (impulse_told (fresh_state g) xs)
      ∙ ap (λ (es : List Event). foldl (rules.append g.repairs) (rules.empty_ring (repair_width * g.repairs)) (repairs_of es)) impulse_told_lem

  pub long_is : (notes_after (fresh_machine g) xs).longruns ≡ long_runs_of (config_of g) xs
  unfolding notes_after long_runs_of fresh_state fresh_settings
  long_is =
      let a = noted_long g.spans g.repairs (notes_in (fresh_machine g)) (impulse_told (fresh_state g) xs) in
      let b = ap long_runs impulse_told_lem in
      omega (arith, a, b)

  -- ---- the rings

  corrected_none : (es : List Event) → marks_of Corrected es ≡ []
  unfolding marks_of
  corrected_none [] = refl
  corrected_none (uncertain j ∷ es) = corrected_none es
  corrected_none (kept a n l ∷ es) = corrected_none es
  corrected_none (mended a n o ∷ es) = corrected_none es

  module _ (some : 0 < g.spans) (hs : List Hop) where
    -- ring number k of the log after the calls
    called_at : (k : ℕ) → k < 12 → marks_at g.spans (logged_after (fresh_machine g) xs) k ≡ ring_after g.spans (fresh_state g) xs k (no_marks g.spans)
    unfolding fresh_state fresh_settings
    called_at k h =
        call_at (fresh_machine g) xs (fresh_rings g some) k
        ∙ ap (ring_after g.spans (fresh_state g) xs k)
        (ap (λ (n : ℕ). marks_at g.spans (record { log = fresh_log; spans = replicate n 0 }) k)
        (let q : store_width * g.spans ≡ g.spans * store_width = omega arith in q) ∙ fresh_marks_at g.spans k h)

    -- and after the hops
    hopped_at : (k : ℕ) → k < 12 → (k ≡ 11 → ⊥)
        → marks_at g.spans (hop_logged (core g xs) (hop_marks g hs)) k ≡ ring_after g.spans (fresh_state g) xs k (no_marks g.spans)
    unfolding core process fresh_state fresh_settings
    hopped_at k h d = uncertain_other g.spans (logged_after (fresh_machine g) xs) (hop_marks g hs) k d (call_rings (fresh_machine g) xs (fresh_rings g some))
        ∙ called_at k h

    hopped_last : marks_at g.spans (hop_logged (core g xs) (hop_marks g hs)) 11
        ≡ foldl (mark g.spans) (ring_after g.spans (fresh_state g) xs 11 (no_marks g.spans)) (hop_marks g hs)
    unfolding core process fresh_state fresh_settings
    hopped_last =
        uncertain_own g.spans (logged_after (fresh_machine g) xs) (hop_marks g hs) (call_rings (fresh_machine g) xs (fresh_rings g some))
        ∙ ap (λ (r : rules.Marks). foldl (mark g.spans) r (hop_marks g hs)) (called_at 11 (lit< tt))

    -- how many are released
    ready_is : length (impulse_out (fresh_state g) xs) ≡ length (released (config_of g) xs)
    ready_is = sym (hands_length (fresh_state g) xs) ∙ ap length released_is

    -- what the rules address to a ring
    abbrev Ruled : Stage → Mark → Type 0
    Ruled st m = marks_at g.spans (hop_logged (core g xs) (hop_marks g hs)) (ring_number st m) ≡ ring_of (config_of g) xs hs st m

    -- the DC and the IQ stage mark nothing in an impulse ring
    impulse_plain : (k : ℕ) → k < 4
        → ring_after g.spans (fresh_state g) xs k (no_marks g.spans)
        ≡ foldl (mark g.spans) (no_marks g.spans) (marks_for k (impulse_events (config_of g) xs))
    unfolding ring_after
    impulse_plain k h =
        let s = settled_of (fresh_state g).settings.iq in
        let d = mode_of (fresh_state g).settings.dc in
        let m = released_span (fresh_state g) xs in
        (λ i. mark_if g.spans (iq_early s k (omega arith) i)
        (mark_if g.spans (dc_only d k (λ e. omega arith) i) (foldl (mark g.spans) (no_marks g.spans) (marks_for k (impulse_told_lem i))) m) m)

    impulse_ring : (m : Mark) → Ruled impulse m
    unfolding ring_of marked
    impulse_ring Repaired = hopped_at 0 (lit< tt) (λ e. omega arith) ∙ impulse_plain 0 (lit< tt)
    impulse_ring Flagged = hopped_at 1 (lit< tt) (λ e. omega arith) ∙ impulse_plain 1 (lit< tt)
    impulse_ring Corrected = hopped_at 2 (lit< tt) (λ e. omega arith) ∙ impulse_plain 2 (lit< tt)
        ∙ ap (foldl (mark g.spans) (no_marks g.spans)) (sym (corrected_none (impulse_events (config_of g) xs)))
    impulse_ring Uncertain = hopped_at 3 (lit< tt) (λ e. omega arith) ∙ impulse_plain 3 (lit< tt)

    -- a ring of the others, by whether they mark it
    plain_at : (k : ℕ) → 4 ≤ k → (d i : Bool) → dc_marks (mode_of g.dc) k ≡ d → iq_marks (settled_by (config_of g)) k ≡ i
        → ring_after g.spans (fresh_state g) xs k (no_marks g.spans)
        ≡ mark_if g.spans i (mark_if g.spans d (no_marks g.spans) (span_of 0 (length (released (config_of g) xs))))
        (span_of 0 (length (released (config_of g) xs)))
    unfolding ring_after fresh_state fresh_settings
    plain_at k h d i a b =
        let e = ap (λ (z : Settled). iq_marks z k) (settled_again (settled_by (config_of g))) ∙ b in
        let l : foldl (mark g.spans) (no_marks g.spans) (marks_for k (impulse_told (fresh_state g) xs)) ≡ no_marks g.spans =
        ap (foldl (mark g.spans) (no_marks g.spans)) (others_none k (impulse_told (fresh_state g) xs) h) in
        (λ j. mark_if g.spans (e j) (mark_if g.spans (a j) (l j) (span_of 0 (ready_is j))) (span_of 0 (ready_is j)))

    -- the ring that the DC stage may mark, and its others
    dc_ring : (m : Mark) → Ruled dc m
    unfolding ring_of marked
    dc_ring Repaired = hopped_at 4 (lit< tt) (λ e. omega arith)
        ∙ plain_at 4 (lit≤ tt) false false (dc_only (mode_of g.dc) 4 (λ e. omega arith)) (iq_early (settled_by (config_of g)) 4 (lit< tt))
    dc_ring Flagged = hopped_at 5 (lit< tt) (λ e. omega arith)
        ∙ plain_at 5 (lit≤ tt) false false (dc_only (mode_of g.dc) 5 (λ e. omega arith)) (iq_early (settled_by (config_of g)) 5 (lit< tt))
    dc_ring Uncertain = hopped_at 7 (lit< tt) (λ e. omega arith)
        ∙ plain_at 7 (lit≤ tt) false false (dc_only (mode_of g.dc) 7 (λ e. omega arith)) (iq_early (settled_by (config_of g)) 7 (lit< tt))
    dc_ring Corrected =
        hopped_at 6 (lit< tt) (λ e. omega arith)
        ∙ plain_at 6 (lit≤ tt) (is_apply (mode_of g.dc)) false (dc_own (mode_of g.dc)) (iq_early (settled_by (config_of g)) 6 (lit< tt))
        ∙ go (is_apply (mode_of g.dc))
      where
        go : (b : Bool)
            → mark_if g.spans b (no_marks g.spans) (span_of 0 (length (released (config_of g) xs)))
            ≡ foldl (mark g.spans) (no_marks g.spans) (cond b (span_of 0 (length (released (config_of g) xs)) ∷ []) [])
        go true = refl
        go false = refl

    -- what an IQ ring gets of a call
    iq_plain : (k : ℕ) → 8 ≤ k → (i : Bool) → iq_marks (settled_by (config_of g)) k ≡ i
        → ring_after g.spans (fresh_state g) xs k (no_marks g.spans)
        ≡ mark_if g.spans i (no_marks g.spans) (span_of 0 (length (released (config_of g) xs)))
    iq_plain k h i e = plain_at k (omega arith) false i (dc_only (mode_of g.dc) k (λ q. omega arith)) e

    -- the marks that the rules give an IQ ring, by what was settled
    abbrev given : Settled → Mark → List Span
    given s m = chain.iq_marks (config_of g) xs (evidence (config_of g) hs) s m

    abbrev Given : Settled → Mark → Type 0
    Given s m = marks_at g.spans (hop_logged (core g xs) (hop_marks g hs)) (ring_number iq m) ≡ foldl (mark g.spans) (no_marks g.spans) (given s m)

    iq_early_ring : (s : Settled) → settled_by (config_of g) ≡ s → (k : ℕ) → 8 ≤ k → k < 11 → (i : Bool) → iq_marks s k ≡ i
        → marks_at g.spans (hop_logged (core g xs) (hop_marks g hs)) k ≡ mark_if g.spans i (no_marks g.spans) (span_of 0 (length (released (config_of g) xs)))
    iq_early_ring s e k a b i h = hopped_at k (omega arith) (λ q. omega arith) ∙ iq_plain k a i (ap (λ (z : Settled). iq_marks z k) e ∙ h)

    iq_last_ring : (s : Settled) → settled_by (config_of g) ≡ s → (i : Bool) → iq_marks s 11 ≡ i
        → marks_at g.spans (hop_logged (core g xs) (hop_marks g hs)) 11
        ≡ foldl (mark g.spans) (mark_if g.spans i (no_marks g.spans) (span_of 0 (length (released (config_of g) xs))))
        (cond (is_observing s) (suspected_spans (evidence (config_of g) hs)) [])
    unfolding hop_marks
    iq_last_ring s e i h =
        hopped_last
        ∙ ap (λ (r : rules.Marks). foldl (mark g.spans) r (hop_marks g hs)) (iq_plain 11 (lit≤ tt) i (ap (λ (z : Settled). iq_marks z 11) e ∙ h))
        ∙ ap (λ (z : Settled). foldl (mark g.spans) (mark_if g.spans i (no_marks g.spans) (span_of 0 (length (released (config_of g) xs))))
        (cond (is_observing z) (suspected_spans (evidence (config_of g) hs)) [])) e

    iq_by : (s : Settled) → settled_by (config_of g) ≡ s → (m : Mark) → Given s m
    iq_by Off e Repaired = iq_early_ring Off e 8 (lit≤ tt) (lit< tt) false refl
    iq_by Off e Flagged = iq_early_ring Off e 9 (lit≤ tt) (lit< tt) false refl
    iq_by Off e Corrected = iq_early_ring Off e 10 (lit≤ tt) (lit< tt) false refl
    iq_by Off e Uncertain = iq_last_ring Off e false refl
    iq_by Observing e Repaired = iq_early_ring Observing e 8 (lit≤ tt) (lit< tt) false refl
    iq_by Observing e Flagged = iq_early_ring Observing e 9 (lit≤ tt) (lit< tt) false refl
    iq_by Observing e Corrected = iq_early_ring Observing e 10 (lit≤ tt) (lit< tt) false refl
    iq_by Observing e Uncertain = iq_last_ring Observing e false refl
    iq_by Withheld e Repaired = iq_early_ring Withheld e 8 (lit≤ tt) (lit< tt) false refl
    iq_by Withheld e Flagged = iq_early_ring Withheld e 9 (lit≤ tt) (lit< tt) false refl
    iq_by Withheld e Corrected = iq_early_ring Withheld e 10 (lit≤ tt) (lit< tt) false refl
    iq_by Withheld e Uncertain = iq_last_ring Withheld e true refl
    iq_by (Correcting r) e Repaired = iq_early_ring (Correcting r) e 8 (lit≤ tt) (lit< tt) false refl
    iq_by (Correcting r) e Flagged = iq_early_ring (Correcting r) e 9 (lit≤ tt) (lit< tt) false refl
    iq_by (Correcting r) e Corrected = iq_early_ring (Correcting r) e 10 (lit≤ tt) (lit< tt) true refl
    iq_by (Correcting r) e Uncertain = iq_last_ring (Correcting r) e false refl

    -- EVERY RING IS THE RULES'
    pub rings_are : (st : Stage) (m : Mark) → Ruled st m
    unfolding ring_of marked
    rings_are impulse m = impulse_ring m
    rings_are dc m = dc_ring m
    rings_are iq m = iq_by (settled_by (config_of g)) refl m
