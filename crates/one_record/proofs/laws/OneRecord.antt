-- DEMAND 3: one record, however a signal is cut into calls. The statement is the record `OneRecord` of Lists.antt. Assumes nothing.
use Rattle.std.specs.Prelude.{◌≡◌, Bool, T, ltb, length, take, drop, Float}
use Rattle.std.proofs.Math.Path.{refl, ap, sym, subst}
use Rattle.std.proofs.Common.{◌∙◌, arith, eq-eqb, eqb-true, lt-ltb, le-ltb, length-append, length-drop, take-append-drop, drop_at}
use Rattle.std.proofs.Math.Bool.{true, false, cond}
use Rattle.std.proofs.lemmas.Bool.{false≢true}
use mathlib.Core.List.{List, [], ◌∷◌, ◌++◌, map, append-nil, append_assoc}
use Prim.Native.Nat.{ℕ, ◌+◌, ◌-◌, ◌*◌, ◌≤◌, ◌<◌}
use Rattle.std.proofs.Math.Dec.{eqb}
use Rattle.complex.specs.View.{view64}
use Rattle.rules.specs.Dc.{corner, first_level, level_after, blocked_all}
use Rattle.rules.specs.Guard.{usable, Usable}
use Rattle.rules.specs.Iq.{Off, settled, corrected_by}
use Rattle.rules.specs.Mode.{off, is_apply, runs}
use Rattle.rules.specs.Log.{repairs_of, repair_width, store_width}
use Rattle.rules.specs.Monitor.{Hop}
use Rattle.rules.specs.Refusals.{bad_start, too_many, unusable_at, any_unusable}
use Rattle.rules.specs.Answers.{accepted, refused, number_of}
use Rattle.rules.specs.Chain as rules
use Rattle.rules.specs.Chain.{after_impulse, after_dc, impulse_events, dc_level, level_is, no_level, settled_by, last_words, held_of}
use Rattle.rules.proofs.laws.SortLaws.{all_take, all_drop}
use Rattle.amplitude_limit.specs.Limit.{returned}
use Rattle.dc.specs.declared.DcBlocker.{DcBlocker}
use Rattle.dc.specs.Blocker.{blocker_of}
use Rattle.iq_correction.proofs.laws.Maps.{unchanged}
use Rattle.iq.specs.View.{calibrated_of}
use Rattle.stage_mode.specs.View.{mode_of}
use Rattle.iq_monitor.specs.Observe as image
use Rattle.iq_monitor.specs.Hops.{Accepted, InOrder, last_end}
use Rattle.iq_monitor.proofs.laws.WordsLaws.{length_words}
use Rattle.chain_config.specs.declared.ConditioningConfig.{ConditioningConfig}
use Rattle.chain_config.specs.Config.{config_of}
use Rattle.chain_state.specs.declared.InputConditioner.{InputConditioner}
use Rattle.chain_state.specs.Fits.{held_by}
use Rattle.chain_make.specs.Making.{fresh_state, fresh_settings, made, making_said}
use Rattle.chain.specs.Stages.{new_part, hands_on, logged_after, process}
use Rattle.chain.proofs.laws.Processing.{hands_length}
use Rattle.chain.specs.Calls.{call_refusal, taken, declined, called}
use Rattle.chain.proofs.laws.CallTests.{call_number, refusal_by, scan_all}
use Rattle.chain_hop.specs.Hops as hop
use Rattle.rules.specs.Undo.{undone_all}
use Rattle.rules.specs.Constants.{total_limit}
use Rattle.rules.specs.Impulse.{lookahead_size}
use Rattle.chain_hop.specs.Hops.{is_off_iq, Hopped, hop_of, hop_refusal}
use Rattle.chain_hop.proofs.laws.HopLaws as hop_laws
use Rattle.chain_undo.specs.Undoing as undo
use Rattle.chain_undo.specs.Undoing.{undo_of, undo_refusal}
use Rattle.chain_undo.proofs.laws.UndoLaws.{chain_made, made_length, chain_accepted, chain_returns}
use Rattle.one_record.specs.Lists.{Act, Operation, ownly, Chain, on, run, Proper, made_chain, ByRules, NoFive, own_all, hopping, calling, merged, OneRecord}
use Rattle.one_record.specs.Lists as list
use Rattle.one_record.proofs.laws.Hopping.{with_hops, uncertain_rings}
use Rattle.one_record.proofs.laws.RingLaws.{call_rings}
use Rattle.one_record.proofs.laws.Accepted.{Taken}
use Rattle.one_record.proofs.laws.Reaching.{fresh_machine, fresh_chain, hop_marks, core, chain_at, Reached, Step, Leads, own_call, own_hop, ends, fresh_rings}
use Rattle.one_record.proofs.laws.Reaching.{end_next, monitor_end}
use Rattle.one_record.proofs.laws.Merging.{Ends, Hops, Brings, merging}
use Rattle.one_record.proofs.laws.ByRules.{released_is, rings_are}
use Rattle.one_record.proofs.laws.Made.{Fit, made_fit}
use Rattle.one_record.proofs.laws.Good.{seen_is, released_count, held_is, clamped_count, repair_ring_lem, long_runs_lem, blocker_is, settled_is, state_good}
use Rattle.one_record.proofs.laws.Good.{spans_good, words_fit_lem}
use Rattle.one_record.proofs.laws.GoodStages.{held_most}
use Rattle.one_record.proofs.laws.Fresh.{fresh_is, made_is}

brought_is : (g : ConditioningConfig) (xs : List ℕ) (hs : List Hop) → (chain_at g xs hs).brought ≡ xs
unfolding chain_at
brought_is g xs hs = refl

hops_is : (g : ConditioningConfig) (xs : List ℕ) (hs : List Hop) → (chain_at g xs hs).hops ≡ hs
unfolding chain_at
hops_is g xs hs = refl

size_is : (g : ConditioningConfig) (xs : List ℕ) (hs : List Hop) → (chain_at g xs hs).machine.state.settings.n ≡ g.n
unfolding chain_at with_hops core process fresh_state fresh_settings
size_is g xs hs = refl

-- ---- lists of hops

cons_not : {A : Type 0} (x : A) (l : List A) → x ∷ l ≡ [] → ⊥
cons_not x l e = let h = ap length e in omega arith

not_off : (b : Bool) (h : Hop) (es : List Hop) → (b ≡ true → h ∷ es ≡ []) → b ≡ false
not_off true h es w = absurd (cons_not h es (w refl))
not_off false h es w = refl

none_held : (b : Bool) → held_by b 0 ≡ 0
none_held true = refl
none_held false = refl

-- ---- the chain after samples and hops

module _ (g : ConditioningConfig) (f : Fit g) (xs : List ℕ) (hs : List Hop) (r : Reached g xs hs) where
  abbrev chain : Chain
  chain = chain_at g xs hs

  -- ---- the lengths of its stores

  pub spans_long : length (chain_at g xs hs).machine.spans ≡ store_width * (chain_at g xs hs).machine.state.settings.spans
  unfolding chain_at with_hops core process fresh_state fresh_settings
  spans_long =
      let t = (uncertain_rings g.spans (logged_after (fresh_machine g) xs) (hop_marks g hs)
      (call_rings (fresh_machine g) xs (fresh_rings g f.limits.some_spans))).twelve.store in
      omega (arith, t)

  same_spans : (chain_at g xs hs).machine.state.settings.spans ≡ g.spans
  unfolding chain_at with_hops core process fresh_state fresh_settings
  same_spans = refl

  same_repairs : (chain_at g xs hs).machine.state.settings.repairs ≡ g.repairs
  unfolding chain_at with_hops core process fresh_state fresh_settings
  same_repairs = refl

  repairs_long : length (chain_at g xs hs).machine.repairs ≡ repair_width * (chain_at g xs hs).machine.state.settings.repairs
  repairs_long =
      made_length chain.machine.state chain.machine.repairs (repairs_of (impulse_events (config_of g) xs))
      (chain_made (config_of g) chain.machine.state chain.machine.repairs xs r.few (state_good g f xs hs r) same_repairs (repair_ring_lem g f xs hs r))

  words_long : length (chain_at g xs hs).words ≡ 4 * (chain_at g xs hs).machine.state.settings.n
  unfolding chain_at with_hops core process fresh_state fresh_settings
  words_long = length_words g.n _

  -- ---- a call is refused for its own slice alone

  call_number_lem : (slice : List ℕ) → let c = (chain_at g xs hs).machine.state in
      call_refusal c slice (chain_at g xs hs).machine.spans (chain_at g xs hs).machine.repairs
      ≡ call_number true true true true (ltb (length slice) c.counts.held) (too_many c.counts.seen (length slice - c.counts.held)).holds
      (any_unusable c.counts.held (new_part c slice)).holds
  call_number_lem slice =
      refusal_by chain.machine.state slice chain.machine.spans chain.machine.repairs true true true true _ _ _
      (state_good g f xs hs r) (eq-eqb _ _ repairs_long) (eq-eqb _ _ spans_long) (spans_good g f xs hs r) refl refl refl

  -- and a hop for itself
  hop_number_lem : hop_refusal (chain_at g xs hs).machine.state (chain_at g xs hs).machine.spans (chain_at g xs hs).words ≡ 0
  hop_number_lem =
      sym
      (hop_laws.refusal_by chain.machine.state chain.machine.spans chain.words true true true true true (state_good g f xs hs r)
      (eq-eqb _ _ spans_long) (eq-eqb _ _ words_long)
      (spans_good g f xs hs r) (words_fit_lem g f xs hs r))

  undo_number_lem : undo_refusal (chain_at g xs hs).machine.state (chain_at g xs hs).machine.repairs ≡ 0
  undo_number_lem =
      chain_accepted (config_of g) chain.machine.state chain.machine.repairs xs r.few (state_good g f xs hs r) same_repairs (repair_ring_lem g f xs hs r)

  -- ---- by the rules

  level_by : (b : Bool) (a z : DcBlocker) → cond b (level_is (view64 (cond b a z).dc)) no_level ≡ cond b (level_is (view64 a.dc)) no_level
  level_by true a z = refl
  level_by false a z = refl

  dc_is : (chain_at g xs hs).machine.state.settings.dc ≡ g.dc
  unfolding chain_at with_hops core process fresh_state fresh_settings
  dc_is = refl

  level_same : cond (runs (mode_of (chain_at g xs hs).machine.state.settings.dc)) (level_is (view64 (chain_at g xs hs).machine.state.blocker.dc)) no_level
      ≡ dc_level (config_of g) xs
  unfolding dc_level
  level_same =
      let a = blocker_of (corner g.fs) (level_after (corner g.fs) first_level (after_impulse (config_of g) xs)) in
      let z = blocker_of (corner g.fs) first_level in
      (λ i. cond (runs (mode_of (dc_is i))) (level_is (view64 (blocker_is g f xs hs r i).dc)) no_level) ∙ level_by (runs (mode_of g.dc)) a z

  count_is : (chain_at g xs hs).machine.state.counts.released ≡ length (hands_on (fresh_state g) xs)
  unfolding chain_at with_hops core process fresh_state
  count_is = let l = hands_length (fresh_state g) xs in omega (arith, l)

  pub at_rules : ByRules g (chain_at g xs hs)
  unfolding chain_at last_words with_hops
  at_rules =
      record {
        released = released_is g f.blocks xs r.usable;
        seen = seen_is g f xs hs r;
        count = count_is;
        held = held_is g f xs hs r;
        clamped = clamped_count g f xs hs r;
        span_words_lem = spans_long ∙ ap (λ (n : ℕ). store_width * n) same_spans;
        rings = rings_are g f.blocks xs r.usable f.limits.some_spans hs;
        repair_words_lem = repairs_long ∙ ap (λ (n : ℕ). 6 * n) same_repairs;
        repairs = repair_ring_lem g f xs hs r;
        longruns = long_runs_lem g f xs hs r;
        level = level_same;
        settled = settled_is g f xs hs r;
        answers = refl;
        words = refl;
      }

  -- ---- number 5 is not met

  slice_number : (h t u : Bool) → (call_number true true true true h t u ≡ 5) → ⊥
  slice_number true t u e = omega arith
  slice_number false true u e = omega arith
  slice_number false false true e = omega arith
  slice_number false false false e = omega arith

  number_returned : (n place : ℕ) → number_of {A = ℕ} (refused (returned n place)) ≡ n
  unfolding returned
  number_returned n place = go (eqb n 0) refl (eqb n 7)
    where
      go : (b : Bool) → eqb n 0 ≡ b → (d : Bool) → number_of {A = ℕ} (refused (cond b [] (cond d (n ∷ place ∷ []) (n ∷ [])))) ≡ n
      go true e d = sym (eqb-true n 0 e)
      go false e true = refl
      go false e false = refl

  no_five_call : (slice : List ℕ) → number_of (called (chain_at g xs hs).machine slice).said ≡ 5 → ⊥
  unfolding called
  no_five_call slice e = go (eqb n 0) e
    where
      n : ℕ
      n = call_refusal (chain_at g xs hs).machine.state slice (chain_at g xs hs).machine.spans (chain_at g xs hs).machine.repairs

      place : ℕ
      place = unusable_at (chain_at g xs hs).machine.state.counts.held (new_part (chain_at g xs hs).machine.state slice)

      go : (b : Bool) → number_of (cond b (taken (chain_at g xs hs).machine slice) (declined (chain_at g xs hs).machine slice (returned n place))).said ≡ 5 → ⊥
      go true h = omega arith
      go false h =
          let c = (chain_at g xs hs).machine.state in
          slice_number (ltb (length slice) c.counts.held) (too_many c.counts.seen (length slice - c.counts.held)).holds
          (any_unusable c.counts.held (new_part c slice)).holds
          (sym (call_number_lem slice) ∙ sym (number_returned n place) ∙ h)

  no_five_hop : (h : Hop)
      → number_of
      (image.said
      (hop_of (chain_at g xs hs).machine.state h.channels h.start (chain_at g xs hs).machine.spans
      (chain_at g xs hs).words).answer) ≡ 5 → ⊥
  unfolding hop.taken
  no_five_hop h e =
      let c = chain.machine.state in
      hop_laws.watched_number c h.channels h.start chain.words
      (ap (λ (o : Hopped). number_of (image.said o.answer))
      (sym (hop_laws.hop_taken c h.channels h.start chain.machine.spans chain.words hop_number_lem)) ∙ e)

  -- a row for each act
  no_five_act : (a : Act) → (on (chain_at g xs hs) (ownly a)).said ≡ refused (5 ∷ []) → ⊥
  no_five_act (list.call slice) e = no_five_call slice (ap number_of e)
  no_five_act (list.hop h) e = no_five_hop h (ap number_of e)

  -- what undo says, by its number
  undo_said : (c : InputConditioner) (repairs samples : List ℕ) (first : ℕ) → undo_refusal c repairs ≡ 0 → number_of (undo_of c repairs samples first).said ≡ 0
  unfolding undo_of
  undo_said c repairs samples first e = go (eqb (undo_refusal c repairs) 0) (eq-eqb _ _ e)
    where
      go : (b : Bool) → b ≡ true
          → number_of
          (cond {A = undo.Outcome} b (record { said = accepted tt; samples = undone_all first (undo.records_of c repairs) samples })
          (record { said = refused (undo_refusal c repairs ∷ []); samples = samples })).said ≡ 0
      go true t = refl
      go false t = absurd (false≢true t)

  no_five_undo : (samples : List ℕ) (first : ℕ)
      → (undo_of (chain_at g xs hs).machine.state (chain_at g xs hs).machine.repairs samples first).said ≡ refused (5 ∷ []) → ⊥
  no_five_undo samples first e =
      let a = undo_said chain.machine.state chain.machine.repairs samples first undo_number_lem in
      let b = ap number_of e in
      omega (arith, a, b)

  pub at_no_five : NoFive (chain_at g xs hs)
  at_no_five = record { act = no_five_act; undo = no_five_undo }

  -- ---- seen = released + held

  at_sum : (chain_at g xs hs).machine.state.counts.seen ≡ (chain_at g xs hs).machine.state.counts.released + (chain_at g xs hs).machine.state.counts.held
  at_sum =
      let a = seen_is g f xs hs r in
      let b = released_count g f xs hs r in
      let d = held_is g f xs hs r in
      let m = held_most (is_apply (mode_of g.impulse)) (length xs) in
      omega (arith, a, b, d, m)

  pub at_few : (chain_at g xs hs).machine.state.counts.held ≤ lookahead_size
  at_few = subst (λ (n : ℕ). n ≤ lookahead_size) (sym (held_is g f xs hs r)) (go (is_apply (mode_of g.impulse)))
    where
      go : (b : Bool) → held_by b (length xs) ≤ lookahead_size
      go true = omega arith
      go false = omega arith

  -- ---- undoing repairs

  alone : mode_of g.dc ≡ off → mode_of g.iq ≡ off → rules.released (config_of g) xs ≡ after_impulse (config_of g) xs
  unfolding rules.released after_dc settled
  alone d q =
      (λ i. map (corrected_by (settled (q i) (calibrated_of g.calibration) g.centre))
      (cond (is_apply (d i)) (blocked_all (corner g.fs) first_level (after_impulse (config_of g) xs)) (after_impulse (config_of g) xs)))
      ∙ sym (unchanged Off (λ w. refl) (after_impulse (config_of g) xs))

  at_undone : mode_of g.dc ≡ off → mode_of g.iq ≡ off → length (repairs_of (impulse_events (config_of g) xs)) ≤ g.repairs
      → undo_of (chain_at g xs hs).machine.state (chain_at g xs hs).machine.repairs (chain_at g xs hs).released 0
      ≡ record { said = accepted tt; samples = take (length (chain_at g xs hs).released) xs }
  at_undone d q h =
      let e = at_rules.released ∙ ap (rules.released (config_of g)) (brought_is g xs hs) ∙ alone d q in
      ap (λ (l : List ℕ). undo_of chain.machine.state chain.machine.repairs l 0) e
      ∙ chain_returns (config_of g) chain.machine.state chain.machine.repairs xs r.few (state_good g f xs hs r) same_repairs
      (repair_ring_lem g f xs hs r) h
      ∙ ap (λ (l : List ℕ). record { said = accepted tt; samples = take (length l) xs }) (sym e)

-- ---- lists of own operations

module _ (g : ConditioningConfig) (f : Fit g) where
  abbrev some : 0 < g.spans
  some = f.limits.some_spans

  -- a hop that is accepted by the rules is taken
  hop_taken : (xs : List ℕ) (hs : List Hop) (h : Hop) → Reached g xs hs → is_off_iq (settled_by (config_of g)) ≡ false → Accepted g.n (last_end g.n 0 hs) h
      → let y = chain_at g xs hs in Taken y.machine.state h.channels h.start y.machine.spans y.words
  hop_taken xs hs h r on a =
      record {
        none = hop_number_lem g f xs hs r;
        watching = ap is_off_iq (settled_is g f xs hs r) ∙ on;
        some = ap (λ (k : ℕ). image.is_none k h.channels) (size_is g xs hs) ∙ a.some;
        starts = ap (λ (k : ℕ). (bad_start k h.start).holds) (monitor_end g some xs hs) ∙ a.start;
        parts = a.parts;
      }

  -- ---- a call of usable samples, behind as many places as are held

  module _ (xs : List ℕ) (hs : List Hop) (r : Reached g xs hs) (slice : List ℕ) where
    abbrev state : InputConditioner
    state = (chain_at g xs hs).machine.state

    -- its number is that of the total
    call_total : (chain_at g xs hs).machine.state.counts.held ≤ length slice → Usable (new_part (chain_at g xs hs).machine.state slice) → (b : Bool)
        → ltb total_limit ((chain_at g xs hs).machine.state.counts.seen + (length slice - (chain_at g xs hs).machine.state.counts.held)) ≡ b
        → call_refusal (chain_at g xs hs).machine.state slice (chain_at g xs hs).machine.spans (chain_at g xs hs).machine.repairs
        ≡ call_number true true true true false b false
    call_total l u b e =
        let scan = scan_all state.counts.held (new_part state slice) u in
        call_number_lem g f xs hs r slice
        ∙ (λ i. call_number true true true true
        (le-ltb (length slice) state.counts.held l i)
        (e i)
        (le-ltb (unusable_at state.counts.held (new_part state slice)) (state.counts.held + length (new_part state slice)) (omega (arith, scan)) i))

    -- up to 2^48 in all it is accepted
    pub call_accepted : (chain_at g xs hs).machine.state.counts.held ≤ length slice → Usable (new_part (chain_at g xs hs).machine.state slice)
        → length xs + length (new_part (chain_at g xs hs).machine.state slice) ≤ total_limit
        → call_refusal (chain_at g xs hs).machine.state slice (chain_at g xs hs).machine.spans (chain_at g xs hs).machine.repairs ≡ 0
    call_accepted l u m =
        call_total l u false
        (le-ltb total_limit (state.counts.seen + (length slice - state.counts.held))
        (omega (arith, seen_is g f xs hs r, length-drop state.counts.held slice, m)))

    -- and above that it meets number 8
    pub call_beyond : (chain_at g xs hs).machine.state.counts.held ≤ length slice → Usable (new_part (chain_at g xs hs).machine.state slice)
        → total_limit < length xs + length (new_part (chain_at g xs hs).machine.state slice)
        → call_refusal (chain_at g xs hs).machine.state slice (chain_at g xs hs).machine.spans (chain_at g xs hs).machine.repairs ≡ 8
    call_beyond l u m =
        call_total l u true
        (lt-ltb total_limit (state.counts.seen + (length slice - state.counts.held))
        (omega (arith, seen_is g f xs hs r, length-drop state.counts.held slice, m)))

  -- words in the held places, and then new samples
  call_step : (xs : List ℕ) (hs : List Hop) → Reached g xs hs → (front new : List ℕ) → length front ≡ held_of (config_of g) xs → Usable new
      → length xs + length new ≤ total_limit
      → Step g xs hs (list.call (front ++ new)) (xs ++ new) hs
  call_step xs hs r front new l u few =
      let c = (chain_at g xs hs).machine.state in
      let h = (at_rules g f xs hs r).held ∙ ap (held_of (config_of g)) (brought_is g xs hs) ∙ sym l in
      let d : new_part c (front ++ new) ≡ new = drop_at front new c.counts.held (sym h) in
      let s = own_call g some xs hs (front ++ new) r
      (call_accepted xs hs r (front ++ new) (omega (arith, h, length-append front new)) (subst Usable (sym d) u) (omega (arith, ap length d, few))) in
      subst (λ (zs : List ℕ). Step g xs hs (list.call (front ++ new)) (xs ++ zs) hs) d s

  -- ---- all the samples and hops, merged

  -- hops that are accepted by the rules
  hopping_leads : (hs es : List Hop) → InOrder g.n (last_end g.n 0 hs) es → (is_off_iq (settled_by (config_of g)) ≡ true → es ≡ [])
      → Hops g hs (hopping es) (hs ++ es)
  hopping_leads hs [] o w = sym (append-nil hs)
  hopping_leads hs (h ∷ es) o w = (
    hs ++ (h ∷ []),
    λ xs r. own_hop g some xs hs h r (hop_taken xs hs h r (not_off (is_off_iq (settled_by (config_of g))) h es w) o.0),
    subst (Hops g (hs ++ (h ∷ [])) (hopping es)) (append_assoc hs (h ∷ []) es)
        (hopping_leads (hs ++ (h ∷ [])) es (subst (λ (e : ℕ). InOrder g.n e es) (sym (end_next g some hs h)) o.1) (λ e. absurd (cons_not h es (w e)))),
  )

  -- samples in calls
  calling_leads : (front : ℕ → List ℕ) → ((k : ℕ) → length (front k) ≡ k) → (sizes xs ys : List ℕ) → Usable ys → length xs + length ys ≤ total_limit
      → Brings g xs (calling front g xs ys sizes) (xs ++ ys)
  calling_leads front long [] xs ys u few = (xs ++ ys, λ hs r. call_step xs hs r (front (held_of (config_of g) xs)) ys (long _) u few, refl)
  calling_leads front long (n ∷ sizes) xs ys u few =
      let parts : take n ys ++ drop n ys ≡ ys = take-append-drop n ys in
      let sum = ap length (sym parts) ∙ length-append (take n ys) (drop n ys) in
      let sum' = length-append xs (take n ys) in (
        xs ++ take n ys,
        λ hs r. call_step xs hs r (front (held_of (config_of g) xs)) (take n ys) (long _) (all_take (λ w. T (usable w)) n ys u) (omega (arith, few, sum)),
        subst (Brings g (xs ++ take n ys) (calling front g (xs ++ take n ys) (drop n ys) sizes))
            (append_assoc xs (take n ys) (drop n ys) ∙ ap (λ (l : List ℕ). xs ++ l) parts)
            (calling_leads front long sizes (xs ++ take n ys) (drop n ys) (all_drop (λ w. T (usable w)) n ys u) (omega (arith, few, sum, sum'))),
      )

  none : Reached g [] []
  none = record { usable = tt; few = omega arith; order = tt; watching = λ e. refl }

  once_run : (xs : List ℕ) (hs : List Hop) → Reached g xs hs → (front : ℕ → List ℕ) → ((k : ℕ) → length (front k) ≡ k) → (sizes : List ℕ) (turns : List Bool)
      → Ends (fresh_chain g) (own_all (merged turns (hopping hs) (calling front g [] xs sizes))) (chain_at g xs hs)
  unfolding last_end
  once_run xs hs r front long sizes turns =
      subst (λ (y : Chain). Ends y (own_all (merged turns (hopping hs) (calling front g [] xs sizes))) (chain_at g xs hs)) (sym (fresh_is g some))
      (merging g turns (hopping hs) (calling front g [] xs sizes) [] xs [] hs (hopping_leads [] hs r.order r.watching)
      (calling_leads front long sizes [] xs r.usable (omega (arith, r.few))) none)

  from_fresh : (os : List Operation) → Proper (fresh_chain g) os → Leads g some (run (fresh_chain g) os)
  from_fresh os p =
      let n = ends g some [] [] os none (subst (λ (y : Chain). Proper y os) (fresh_is g some) p) in
      record { samples = n.samples; hops = n.hops; is = ap (λ (y : Chain). run y os) (fresh_is g some) ∙ n.is; reached = n.reached }

  fresh_record : (os ps : List Operation) → Proper (fresh_chain g) os → Proper (fresh_chain g) ps
      → (run (fresh_chain g) os).brought ≡ (run (fresh_chain g) ps).brought → (run (fresh_chain g) os).hops ≡ (run (fresh_chain g) ps).hops
      → OneRecord g (fresh_chain g) (fresh_chain g) os ps
  fresh_record os ps p q same-samples same-hops =
      let n = from_fresh os p in
      let m = from_fresh ps q in
      let xs = n.samples in
      let hs = n.hops in
      let t = n.reached in
      let y = run (fresh_chain g) os in
      let x-is : y.brought ≡ xs = ap (λ (c : Chain). c.brought) n.is ∙ brought_is g xs hs in
      let h-is : y.hops ≡ hs = ap (λ (c : Chain). c.hops) n.is ∙ hops_is g xs hs in
      let x'-is : (run (fresh_chain g) ps).brought ≡ m.samples = ap (λ (c : Chain). c.brought) m.is ∙ brought_is g m.samples m.hops in
      let h'-is : (run (fresh_chain g) ps).hops ≡ m.hops = ap (λ (c : Chain). c.hops) m.is ∙ hops_is g m.samples m.hops in
      record {
        alike = n.is ∙ (λ i. chain_at g ((sym x-is ∙ same-samples ∙ x'-is) i) ((sym h-is ∙ same-hops ∙ h'-is) i)) ∙ sym m.is;
        ruled = subst (ByRules g) (sym n.is) (at_rules g f xs hs t);
        takes = λ front zs long u few.
            subst (λ (c : Chain). list.Accepted c (ownly (list.call (front ++ zs)))) (sym n.is)
            (call_step xs hs t front zs (long ∙ ap (held_of (config_of g)) x-is) u (omega (arith, few, ap length x-is))).taken;
        once = λ front long sizes turns.
            subst (λ (zs : List ℕ). Ends (fresh_chain g) (own_all (merged turns (hopping y.hops) (calling front g [] zs sizes))) y) (sym x-is)
            (subst (λ (ks : List Hop). Ends (fresh_chain g) (own_all (merged turns (hopping ks) (calling front g [] xs sizes))) y) (sym h-is)
            (subst (Ends (fresh_chain g) (own_all (merged turns (hopping hs) (calling front g [] xs sizes)))) (sym n.is)
            (once_run xs hs t front long sizes turns)));
        no_five = subst NoFive (sym n.is) (at_no_five g f xs hs t);
        sum = subst (λ (c : Chain). c.machine.state.counts.seen ≡ c.machine.state.counts.released + c.machine.state.counts.held) (sym n.is)
            (at_sum g f xs hs t);
        few = subst (λ (c : Chain). c.machine.state.counts.held ≤ lookahead_size) (sym n.is) (at_few g f xs hs t);
        undone = λ i d s h.
            subst (λ (c : Chain). undo_of c.machine.state c.machine.repairs c.released 0
            ≡ record { said = accepted tt; samples = take (length c.released) c.brought }) (sym n.is)
            (at_undone g f xs hs t d s (subst (λ (zs : List ℕ). length (repairs_of (impulse_events (config_of g) zs)) ≤ g.repairs) x-is h)
            ∙ ap (λ (zs : List ℕ). record { said = accepted tt; samples = take (length (chain_at g xs hs).released) zs }) (sym (brought_is g xs hs)));
      }

-- what a list brought is usable, and no more than the limit
pub brought_fits : (g : ConditioningConfig)
    → (spans repairs : List ℕ) (words : List Float) → making_said (config_of g) (length spans) (length repairs) (length words) ≡ made
    → let y = made_chain g spans repairs words in
    (os : List Operation) → Proper y os → Usable (run y os).brought × length (run y os).brought ≤ total_limit
brought_fits g spans repairs words e os p =
    let f = (made_fit g (length spans) (length repairs) (length words) e).fit in
    let a = made_is g spans repairs words e in
    let n = from_fresh g f os (subst (λ (y : Chain). Proper y os) a p) in
    let x = ap (λ (y : Chain). (run y os).brought) a ∙ ap (λ (c : Chain). c.brought) n.is ∙ brought_is g n.samples n.hops in
    subst (λ (xs : List ℕ). Usable xs × length xs ≤ total_limit) (sym x) (n.reached.usable, n.reached.few)

-- ---- THE THEOREM

pub one_record : (g : ConditioningConfig)
    → (spans repairs : List ℕ) (words : List Float) → making_said (config_of g) (length spans) (length repairs) (length words) ≡ made
    → (spans' repairs' : List ℕ) (words' : List Float) → making_said (config_of g) (length spans') (length repairs') (length words') ≡ made
    → let y = made_chain g spans repairs words in let z = made_chain g spans' repairs' words' in
    (os ps : List Operation) → Proper y os → Proper z ps
    → (run y os).brought ≡ (run z ps).brought
    → (run y os).hops ≡ (run z ps).hops
    → OneRecord g y z os ps
one_record g spans repairs words e spans' repairs' words' e' os ps p q same-samples same-hops =
    let f = (made_fit g (length spans) (length repairs) (length words) e).fit in
    let a = made_is g spans repairs words e in
    let b = made_is g spans' repairs' words' e' in
    subst (λ (y : Chain). OneRecord g y (made_chain g spans' repairs' words') os ps) (sym a)
    (subst (λ (z : Chain). OneRecord g (fresh_chain g) z os ps) (sym b)
    (fresh_record g f os ps (subst (λ (y : Chain). Proper y os) a p) (subst (λ (z : Chain). Proper z ps) b q)
    (ap (λ (y : Chain). (run y os).brought) (sym a) ∙ same-samples ∙ ap (λ (z : Chain). (run z ps).brought) b)
    (ap (λ (y : Chain). (run y os).hops) (sym a) ∙ same-hops ∙ ap (λ (z : Chain). (run z ps).hops) b)))
