-- A chain that was made is the chain after no samples and no hops. Assumes nothing.
use Rattle.std.proofs.Math.Path.{◌≡◌, refl, ap, sym}
use Rattle.std.proofs.Common.{◌∙◌}
use Rattle.std.specs.Prelude.{Bool, ℕ, ◌+◌, ◌-◌, ◌<◌, replicate, eqb, Float}
use Rattle.std.proofs.Math.Bool.{true, false, cond}
use mathlib.Core.List.{List, [], map, foldl}
use native.Mathlib.Omega.{arith}
use Rattle.std.proofs.Math.ListN.{length}
use Rattle.rules.specs.Constants.{zero_f}
use Rattle.rules.specs.Iq.{corrected_by}
use Rattle.rules.specs.Mode.{Mode, off, observe, apply}
use Rattle.rules.specs.Dc.{level_after, blocked_all, clamped_steps}
use Rattle.rules.specs.Log as rules
use Rattle.rules.specs.Log.{Span, mark, span_of, marks_of}
use Rattle.rules.specs.Monitor.{answers, open_window, suspected_spans}
use Rattle.rules.specs.Chain.{evidence, settled_by}
use Rattle.stage_log.specs.View.{marks_at}
use Rattle.impulse_slice.specs.Noted.{note_all, told, marks_for, Rings}
use Rattle.impulse_slice.proofs.laws.NotesLaws.{note_none}
use Rattle.dc.specs.declared.DcBlocker.{DcBlocker}
use Rattle.dc.specs.Blocker.{Blocked}
use Rattle.iq_monitor.specs.Hops.{last_end, window_state}
use Rattle.iq_monitor.proofs.laws.WordsLaws.{no_words}
use Rattle.iq.specs.View.{settled_of}
use Rattle.stage_mode.specs.View.{mode_of}
use Rattle.chain_config.specs.declared.ConditioningConfig.{ConditioningConfig}
use Rattle.chain_config.specs.Config.{config_of}
use Rattle.chain_state.specs.declared.InputConditioner.{InputConditioner}
use Rattle.chain_make.specs.Making.{fresh_state, Said, made, making_said, made_words}
use Rattle.chain.specs.Stages.{setting_in, Machine, machine_of, notes_in, impulse_after, impulse_out, impulse_told, dc_after, blocked_by, hands_on, notes_after}
use Rattle.chain.specs.Stages.{logged_after, counts_after, machine_after, process}
use Rattle.chain_hop.specs.Hops.{is_observing}
use Rattle.one_record.specs.Rings.{dc_marks, iq_marks, mark_if, ring_after}
use Rattle.one_record.proofs.laws.RingLaws.{same_rings, call_rings, call_at}
use Rattle.one_record.proofs.laws.Hopping.{with_hops}
use Rattle.one_record.specs.Lists.{made_chain}
use Rattle.one_record.proofs.laws.Reaching.{fresh_machine, fresh_chain, hop_marks, core, chain_at, fresh_rings}
use Rattle.one_record.proofs.laws.Made.{made_fit}

-- ---- a call that brings nothing

module _ (c : InputConditioner) where
  after_none : impulse_after c [] ≡ c.suppressor
  unfolding impulse_after
  after_none = go c.settings.impulse
    where
      go : (b : Bool) → cond b c.suppressor c.suppressor ≡ c.suppressor
      go true = refl
      go false = refl

  out_none : impulse_out c [] ≡ []
  unfolding impulse_out
  out_none = go c.settings.impulse
    where
      go : (b : Bool) → ◌≡◌ {A = List ℕ} (cond b [] []) []
      go true = refl
      go false = refl

  told_none : impulse_told c [] ≡ []
  unfolding impulse_told
  told_none = go c.settings.impulse
    where
      go : (b : Bool) → cond b (told (setting_in c) c.suppressor []) [] ≡ []
      go true = refl
      go false = refl

  dc_none : (d : Mode) (b : DcBlocker) → dc_after d b [] ≡ record { blocker = b; clamped = 0 }
  unfolding level_after clamped_steps
  dc_none off b = refl
  dc_none observe b = refl
  dc_none apply b = refl

  blocked_none : (d : Mode) (b : DcBlocker) → blocked_by d b [] ≡ []
  unfolding blocked_all
  blocked_none off b = refl
  blocked_none observe b = refl
  blocked_none apply b = refl

  pub hands_none : hands_on c [] ≡ []
  unfolding hands_on
  hands_none =
      ap (λ (l : List ℕ). map (corrected_by (settled_of c.settings.iq)) (blocked_by (mode_of c.settings.dc) c.blocker l)) out_none
      ∙ ap (map (corrected_by (settled_of c.settings.iq))) (blocked_none (mode_of c.settings.dc) c.blocker)

  -- an empty mark is none
  mark_none : (cap : ℕ) (b : Bool) (q : rules.Marks) (s : ℕ) → mark_if cap b q (span_of s 0) ≡ q
  unfolding mark
  mark_none cap true q s = refl
  mark_none cap false q s = refl

  none_for : (k : ℕ) → marks_for k [] ≡ []
  unfolding marks_of
  none_for k = go (eqb k 0) (eqb k 1) (eqb k 3)
    where
      go : (a b d : Bool) → ◌≡◌ {A = List Span} (cond a [] (cond b [] (cond d [] []))) []
      go true b d = refl
      go false true d = refl
      go false false true = refl
      go false false false = refl

  ring_none : (cap k : ℕ) (q : rules.Marks) → ring_after cap c [] k q ≡ q
  unfolding ring_after marks_of
  ring_none cap k q =
      let d = dc_marks (mode_of c.settings.dc) k in
      let i = iq_marks (settled_of c.settings.iq) k in
      (λ j. mark_if cap i (mark_if cap d (foldl (mark cap) q (marks_for k (told_none j))) (span_of c.counts.released (length (out_none j))))
      (span_of c.counts.released (length (out_none j))))
      ∙ ap (λ (l : List Span). mark_if cap i (mark_if cap d (foldl (mark cap) q l) (span_of c.counts.released 0)) (span_of c.counts.released 0))
      (none_for k)
      ∙ ap (λ (y : rules.Marks). mark_if cap i y (span_of c.counts.released 0)) (mark_none cap d q c.counts.released)
      ∙ mark_none cap i q c.counts.released

module _ (m : Machine) (r : Rings m.state.settings.spans (notes_in m).logged) where
  notes_none : notes_after m [] ≡ notes_in m
  unfolding notes_after
  notes_none =
      ap (note_all m.state.settings.spans m.state.settings.repairs (notes_in m)) (told_none m.state)
      ∙ note_none m.state.settings.spans m.state.settings.repairs (notes_in m)

  logged_none : logged_after m [] ≡ (notes_in m).logged
  logged_none =
      let cap = m.state.settings.spans in
      same_rings cap (logged_after m []) (notes_in m).logged (call_rings m [] r).twelve r.twelve
      (λ k h. call_at m [] r k ∙ ring_none m.state cap k (marks_at cap (notes_in m).logged k))

  pub process_none : process m [] ≡ m
  unfolding process
  process_none =
      let c = m.state in
      let o = ap length (out_none c) in
      let n = c.counts in
      let d = mode_of c.settings.dc in
      let b = ap (dc_after d c.blocker) (out_none c) ∙ dc_none c d c.blocker in
      let k = ap (λ (t : Blocked). t.clamped) b in
      let same : (n.seen + 0 ≡ n.seen) × (n.released + length (impulse_out c []) ≡ n.released) × (n.held + 0 - length (impulse_out c []) ≡ n.held)
      × (n.clamped + (dc_after d c.blocker (impulse_out c [])).clamped ≡ n.clamped)
      = (omega arith, omega arith, omega arith, omega arith) in
      let counts : counts_after c 0 (length (impulse_out c [])) (dc_after d c.blocker (impulse_out c [])).clamped ≡ c.counts
      = λ i. record { seen = same.0 i; released = same.1 i; held = same.2 i; clamped = same.3 i } in
      λ i. machine_after c (counts i) (after_none c i) (b i).blocker (logged_none i) (notes_none i).repairs (notes_none i).longruns

-- ---- a fresh chain

module _ (g : ConditioningConfig) (some : 0 < g.spans) where
  no_hop_marks : hop_marks g [] ≡ []
  unfolding hop_marks evidence answers suspected_spans
  no_hop_marks = go (is_observing (settled_by (config_of g)))
    where
      go : (b : Bool) → ◌≡◌ {A = List Span} (cond b [] []) []
      go true = refl
      go false = refl

  core_none : core g [] ≡ fresh_machine g
  unfolding core
  core_none = process_none (fresh_machine g) (fresh_rings g some)

  machine_none : fresh_machine g ≡ with_hops (core g []) (window_state [] 0) (hop_marks g [])
  unfolding with_hops fresh_state
  machine_none = (λ i. with_hops (sym core_none i) (window_state [] 0) (sym no_hop_marks i))

  pub fresh_is : fresh_chain g ≡ chain_at g [] []
  unfolding fresh_chain chain_at open_window last_end evidence answers
  fresh_is =
      λ i.
      record {
        machine = machine_none i;
        words = sym (no_words g.n) i;
        brought = [];
        released = sym (hands_none (fresh_state g)) i;
        hops = [];
        answers = [];
      }

-- ---- a chain as making leaves it, whatever stood in the lent words

pub made_is : (g : ConditioningConfig) (spans repairs : List ℕ) (words : List Float)
    → making_said (config_of g) (length spans) (length repairs) (length words) ≡ made
    → made_chain g spans repairs words ≡ fresh_chain g
unfolding made_chain fresh_chain
made_is g spans repairs words e =
    let l = made_fit g (length spans) (length repairs) (length words) e in
    λ i.
    record {
      machine =
          machine_of (fresh_state g)
          ((ap (λ (s : Said). made_words 0 s spans) e ∙ ap (λ (n : ℕ). replicate n 0) l.spans_long) i)
          ((ap (λ (s : Said). made_words 0 s repairs) e ∙ ap (λ (n : ℕ). replicate n 0) l.repairs_long) i);
      words = (ap (λ (s : Said). made_words zero_f s words) e ∙ ap (λ (n : ℕ). replicate n zero_f) l.words_long) i;
      brought = [];
      released = [];
      hops = [];
      answers = [];
    }
