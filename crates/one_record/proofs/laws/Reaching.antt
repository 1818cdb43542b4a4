-- The chain after samples and hops in closed form; each operation leads from one such chain to another, and so does a list. Assumes nothing.
use Rattle.std.specs.Prelude.{◌≡◌, Bool, ℕ, ◌+◌, ◌-◌, ◌*◌, ◌≤◌, ◌<◌, length, drop, Float}
use Rattle.std.proofs.Math.Path.{refl, ap, sym}
use Rattle.std.proofs.Common.{◌∙◌, subst, take_at}
use Rattle.std.proofs.Math.Bool.{true, false, cond}
use Rattle.std.proofs.lemmas.Bool.{false≢true}
use mathlib.Core.List.{List, [], ◌∷◌, ◌++◌, foldl, foldl-append, append-nil, append_assoc}
use native.Mathlib.Omega.{arith}
use borrow.Author.Tests.{ltb-false}
use Rattle.std.proofs.Math.ListN.{replicate, length-append, length-drop}
use Rattle.rules.specs.Constants.{zero_f, total_limit}
use Rattle.rules.specs.Guard.{Usable}
use Rattle.rules.specs.Log.{Span, repair_width, store_width}
use Rattle.rules.specs.Monitor.{Hop, Answer, no_report, report, window_length, answers, open_window, monitor_words, next_window, answer_to, hop_end, suspected_span}
use Rattle.rules.specs.Monitor.{suspected_spans, channel_width}
use Rattle.rules.specs.Answers.{Said, accepted, nothing, refused, is_accepted}
use Rattle.rules.specs.Chain.{settled_by, evidence}
use Rattle.stage_log.specs.View.{fresh_log}
use Rattle.stage_log.proofs.laws.CheckLaws.{fresh_bounded}
use Rattle.stage_log.specs.Ready.{Bounded}
use Rattle.impulse_slice.specs.Noted.{Rings}
use Rattle.impulse_slice.proofs.laws.NotedRings.{bounded_rings}
use Rattle.iq_monitor.specs.Observe as image
use Rattle.iq_monitor.specs.Hops.{Accepted, InOrder, last_end, window_state, by_rules, answer_of}
use Rattle.iq_monitor.proofs.laws.Evidence.{one_hop, stepped, answers_append, window_append, end_append}
use Rattle.iq.specs.View.{settled_of}
use Rattle.chain_config.specs.declared.ConditioningConfig.{ConditioningConfig}
use Rattle.chain_config.specs.Config.{config_of}
use Rattle.rules.specs.Refusals.{bad_start}
use Rattle.chain_state.specs.declared.Settings.{Settings}
use Rattle.chain_state.specs.declared.InputConditioner.{InputConditioner}
use Rattle.chain_state.specs.Changed.{after_hop}
use Rattle.chain_make.specs.Making.{fresh_state, fresh_settings}
use Rattle.chain_make.proofs.laws.MakingLaws.{settled_again}
use Rattle.chain.specs.Stages.{Machine, machine_of, notes_in, new_part, process, hands_on}
use Rattle.chain.specs.Calls as calls
use Rattle.chain.specs.Calls.{call_refusal}
use Rattle.chain_hop.specs.Hops as hops
use Rattle.chain_hop.specs.Hops.{is_observing, is_off_iq, uncertain, Hopped}
use Rattle.one_record.specs.Lists as list
use Rattle.one_record.specs.Lists.{Given, own, other, handed, kept, Lent, all_own, Act, call, hop, Operation, ownly, Value, Outcome, after_called}
use Rattle.one_record.specs.Lists.{after_hopped, applied, Chain, leave, on, settle, next, run, Proper}
use Rattle.one_record.proofs.laws.RingLaws.{call_rings}
use Rattle.one_record.proofs.laws.Append.{process_append, hands_append}
use Rattle.one_record.proofs.laws.Hopping.{with_hops, process_hops, hands_hops}
use Rattle.chain.proofs.laws.Keeping.{ready_none, refused_keeps}
use Rattle.one_record.proofs.laws.Accepted.{passes, usable_append, scan_usable, Taken, answered_taken}
use Rattle.chain.proofs.laws.CallTests.{taken_by}
use Rattle.chain_hop.proofs.laws.HopLaws.{watched_by, hop_taken}
use Rattle.chain_hop.proofs.laws.HopKeeps.{hop_keeps}

-- ---- a fresh chain

abbrev pub fresh_machine : ConditioningConfig → Machine
fresh_machine g = machine_of (fresh_state g) (replicate (store_width * g.spans) 0) (replicate (repair_width * g.repairs) 0)

unfoldable pub fresh_chain : ConditioningConfig → Chain
fresh_chain g = record { machine = fresh_machine g; words = replicate (channel_width * g.n) zero_f; brought = []; released = []; hops = []; answers = [] }

-- ---- the chain after samples xs and hops hs

-- the windows that an observing monitor suspected
unfoldable pub hop_marks : ConditioningConfig → List Hop → List Span
hop_marks g hs = cond (is_observing (settled_by (config_of g))) (suspected_spans (evidence (config_of g) hs)) []

-- what calls move
unfoldable pub core : ConditioningConfig → List ℕ → Machine
core g xs = process (fresh_machine g) xs

unfoldable pub chain_at : ConditioningConfig → List ℕ → List Hop → Chain
chain_at g xs hs =
    let w = by_rules g.fs g.n [] 0 hs in
    record {
      machine = with_hops (core g xs) w.monitor (hop_marks g hs);
      words = w.words;
      brought = xs;
      released = hands_on (fresh_state g) xs;
      hops = hs;
      answers = evidence (config_of g) hs;
    }

-- the samples are usable, and at most 2^48; the hops are accepted, one after another, and none where IQ is off
pub record Reached (g : ConditioningConfig) (xs : List ℕ) (hs : List Hop) : Type 0 where
  pub usable : Usable xs
  pub few : length xs ≤ total_limit
  pub order : InOrder g.n 0 hs
  pub watching : is_off_iq (settled_by (config_of g)) ≡ true → hs ≡ []

-- an act that is accepted by one such chain and leads to another
pub record Step (g : ConditioningConfig) (xs : List ℕ) (hs : List Hop) (a : Act) (xs' : List ℕ) (hs' : List Hop) : Type 0 where
  pub taken : list.Accepted (chain_at g xs hs) (ownly a)
  pub is : next (chain_at g xs hs) (ownly a) ≡ chain_at g xs' hs'
  pub reached : Reached g xs' hs'

-- ---- answers

suspected_is : (a : Answer) → hops.suspected_by (answer_of a) ≡ suspected_span a
suspected_is no_report = refl
suspected_is (report r) = refl

said_is : (a : Answer) → image.said (answer_of a) ≡ accepted a
said_is no_report = refl
said_is (report r) = refl

suspected_snoc : (l : List Answer) (a : Answer) → suspected_spans (l ++ (a ∷ [])) ≡ suspected_spans l ++ suspected_span a
unfolding suspected_spans
suspected_snoc [] a = append-nil (suspected_span a)
suspected_snoc (b ∷ l) a = ap (λ (t : List Span). suspected_span b ++ t) (suspected_snoc l a)
    ∙ sym (append_assoc (suspected_span b) (suspected_spans l) (suspected_span a))

in_order : (n end : ℕ) (hs : List Hop) (h : Hop) → InOrder n end hs → Accepted n (last_end n end hs) h → InOrder n end (hs ++ (h ∷ []))
unfolding last_end
in_order n end [] h o a = (a, tt)
in_order n end (k ∷ hs) h o a = (o.0, in_order n (hop_end n k) hs h o.1 a)

end_of : (w : List Hop) (end : ℕ) → (window_state w end).end ≡ end
end_of [] end = refl
end_of (h ∷ w) end = refl

-- ---- an operation that is not accepted leaves the chain as it was

kept_same : {A : Type 0} (g : Given A) (a left : A) → left ≡ handed g a → kept g a left ≡ a
kept_same own a left e = e
kept_same (other b) a left e = refl

record Left (a : Act) (m : Machine) (ws : List Float) : Type 0 where
  machine : (applied a m ws).machine ≡ m
  words : (applied a m ws).words ≡ ws

-- a row for each act
left : (a : Act) (m : Machine) (ws : List Float) → is_accepted (applied a m ws).said ≡ false → Left a m ws
left (call slice) m ws e = record { machine = refused_keeps m slice e; words = refl }
left (hop h) m ws e =
    let k = hop_keeps m.state h.channels h.start m.spans ws e in
    record { machine = λ i. machine_of (k.state i) (k.spans i) m.repairs; words = k.words }

not_accepted : (y : Chain) (o : Operation) → is_accepted (on y o).said ≡ false → next y o ≡ y
unfolding next
not_accepted y o e = go (on y o).said refl
  where
    l : Lent
    l = o.lent

    m : Machine
    m = y.machine

    k : Left o.act (machine_of (handed l.state m.state) (handed l.spans m.spans) (handed l.repairs m.repairs))
        (handed l.words y.words)
    k = left o.act _ _ e

    same : leave l y (on y o) ≡ y
    same =
        λ i.
        record {
          machine =
              record {
                state = kept_same l.state m.state (on y o).machine.state (ap (λ (n : Machine). n.state) k.machine) i;
                spans = kept_same l.spans m.spans (on y o).machine.spans (ap (λ (n : Machine). n.spans) k.machine) i;
                repairs = kept_same l.repairs m.repairs (on y o).machine.repairs (ap (λ (n : Machine). n.repairs) k.machine) i;
              };
          words = kept_same l.words y.words (on y o).words k.words i;
          brought = y.brought;
          released = y.released;
          hops = y.hops;
          answers = y.answers;
        }

    go : (s : Said (Value o.act)) → (on y o).said ≡ s → settle o.act l y (on y o) s ≡ y
    go (accepted v) q = absurd (false≢true (sym e ∙ ap is_accepted q))
    go nothing q = same
    go (refused r) q = same

module _ (g : ConditioningConfig) (some : 0 < g.spans) where
  -- ---- what never changes

  settings_at : (xs : List ℕ) → (core g xs).state.settings ≡ fresh_settings g
  unfolding core process fresh_state
  settings_at xs = refl

  settled_at : settled_of (fresh_settings g).iq ≡ settled_by (config_of g)
  unfolding fresh_settings
  settled_at = settled_again (settled_by (config_of g))

  pub fresh_rings : Rings (fresh_machine g).state.settings.spans (notes_in (fresh_machine g)).logged
  unfolding fresh_state fresh_settings
  fresh_rings =
      bounded_rings g.spans 0 (record { log = fresh_log; spans = replicate (store_width * g.spans) 0 })
      (subst (λ (n : ℕ). Bounded g.spans 0 (record { log = fresh_log; spans = replicate n 0 }))
      (let q : g.spans * store_width ≡ store_width * g.spans = omega arith in q) (fresh_bounded g.spans some))

  rings_at : (xs : List ℕ) → Rings (core g xs).state.settings.spans (notes_in (core g xs)).logged
  unfolding core process
  rings_at xs = call_rings (fresh_machine g) xs fresh_rings

  -- ---- a call

  core_more : (xs ys : List ℕ) → process (core g xs) ys ≡ core g (xs ++ ys)
  unfolding core
  core_more xs ys = sym (process_append (fresh_machine g) xs ys fresh_rings)

  -- an observing monitor's marks are none where IQ does not observe
  no_marks_lem : (xs : List ℕ) (hs : List Hop) → is_observing (settled_of (core g xs).state.settings.iq) ≡ false → hop_marks g hs ≡ []
  unfolding hop_marks core process fresh_state
  no_marks_lem xs hs e = ap (λ (b : Bool). cond b (suspected_spans (evidence (config_of g) hs)) []) (ap is_observing (sym settled_at) ∙ e)

  pub machine_more : (xs ys : List ℕ) (hs : List Hop) → process (chain_at g xs hs).machine ys ≡ (chain_at g (xs ++ ys) hs).machine
  unfolding chain_at
  machine_more xs ys hs =
      process_hops (core g xs) (by_rules g.fs g.n [] 0 hs).monitor (hop_marks g hs) ys (rings_at xs) (no_marks_lem xs hs)
      ∙ ap (λ (m : Machine). with_hops m (by_rules g.fs g.n [] 0 hs).monitor (hop_marks g hs)) (core_more xs ys)

  pub released_more : (xs ys : List ℕ) (hs : List Hop)
      → hands_on (fresh_state g) xs ++ hands_on (chain_at g xs hs).machine.state ys ≡ hands_on (fresh_state g) (xs ++ ys)
  unfolding chain_at core
  released_more xs ys hs =
      ap (λ (l : List ℕ). hands_on (fresh_state g) xs ++ l)
      (hands_hops (core g xs) (by_rules g.fs g.n [] 0 hs).monitor (hop_marks g hs) ys (rings_at xs) (no_marks_lem xs hs))
      ∙ sym (hands_append (fresh_machine g) xs ys)

  -- the parts of the chain that are no machine
  record At (xs : List ℕ) (hs : List Hop) : Type 0 where
    brought : (chain_at g xs hs).brought ≡ xs
    released : (chain_at g xs hs).released ≡ hands_on (fresh_state g) xs
    hops : (chain_at g xs hs).hops ≡ hs
    answers : (chain_at g xs hs).answers ≡ evidence (config_of g) hs

  chain_is : (xs : List ℕ) (hs : List Hop) → At xs hs
  unfolding chain_at
  chain_is xs hs = record { brought = refl; released = refl; hops = refl; answers = refl }

  chain_again : (xs new : List ℕ) (hs : List Hop)
      → ◌≡◌ {A = Chain}
      (record {
        machine = (chain_at g (xs ++ new) hs).machine;
        words = (chain_at g xs hs).words;
        brought = xs ++ new;
        released = hands_on (fresh_state g) (xs ++ new);
        hops = hs;
        answers = evidence (config_of g) hs;
      })
      (chain_at g (xs ++ new) hs)
  unfolding chain_at
  chain_again xs new hs = refl

  seen_at : (xs : List ℕ) (hs : List Hop) → (chain_at g xs hs).machine.state.counts.seen ≡ length xs
  unfolding chain_at with_hops core process fresh_state
  seen_at xs hs = omega arith

  pub own_call : (xs : List ℕ) (hs : List Hop) (slice : List ℕ) → Reached g xs hs
      → let y = chain_at g xs hs in call_refusal y.machine.state slice y.machine.spans y.machine.repairs ≡ 0
      → Step g xs hs (call slice) (xs ++ new_part (chain_at g xs hs).machine.state slice) hs
  unfolding next
  own_call xs hs slice r e =
      let y = chain_at g xs hs in
      let m = y.machine in
      let c = m.state in
      let new = new_part c slice in
      let ys = hands_on c new in
      let p = passes c slice m.spans m.repairs e in
      let few = ltb-false total_limit (c.counts.seen + (length slice - c.counts.held)) p.few in
      let at = chain_is xs hs in
      record {
        taken = ap (λ (o : calls.Outcome). is_accepted o.said) (taken_by c slice m.spans m.repairs e);
        is =
            ap (λ (o : calls.Outcome). settle (call slice) all_own y (after_called o y.words) o.said) (taken_by c slice m.spans m.repairs e)
            ∙ (λ i.
            record {
              machine = machine_more xs new hs i;
              words = y.words;
              brought = at.brought i ++ new;
              released =
                  (ap (λ (l : List ℕ). y.released ++ l) (take_at ys (drop (length ys) slice) (length ys) refl) ∙ ap (λ (l : List ℕ). l ++ ys) at.released
                  ∙ released_more xs new hs) i;
              hops = at.hops i;
              answers = at.answers i;
            })
            ∙ chain_again xs new hs;
        reached =
            record {
              usable = usable_append xs new r.usable (scan_usable c.counts.held new p.fine);
              few = omega (arith, length-append xs new, length-drop c.counts.held slice, few, seen_at xs hs, r.few);
              order = r.order;
              watching = r.watching;
            };
      }

  -- ---- a hop

  -- the window that is open after hops, and where the last ended
  abbrev window_at : List Hop → List Hop
  window_at hs = open_window g.n (window_length g.fs) [] hs

  abbrev end_at : List Hop → ℕ
  end_at hs = last_end g.n 0 hs

  module _ (hs : List Hop) (h : Hop) where
    abbrev answer_at : Answer
    answer_at = answer_to g.n (window_length g.fs) (window_at hs) h

    window_next : window_at (hs ++ (h ∷ [])) ≡ next_window g.n (window_length g.fs) (window_at hs) h
    unfolding open_window
    window_next = window_append g.n (window_length g.fs) [] hs (h ∷ [])

    pub end_next : end_at (hs ++ (h ∷ [])) ≡ hop_end g.n h
    unfolding last_end
    end_next = end_append g.n 0 hs (h ∷ [])

    evidence_next : evidence (config_of g) (hs ++ (h ∷ [])) ≡ evidence (config_of g) hs ++ (answer_at ∷ [])
    unfolding evidence answers
    evidence_next = answers_append g.n (window_length g.fs) [] hs (h ∷ [])

    marks_next : hop_marks g (hs ++ (h ∷ [])) ≡ hop_marks g hs ++ cond (is_observing (settled_by (config_of g))) (suspected_span answer_at) []
    unfolding hop_marks
    marks_next = go (is_observing (settled_by (config_of g)))
      where
        go : (b : Bool)
            → cond b (suspected_spans (evidence (config_of g) (hs ++ (h ∷ [])))) []
            ≡ cond b (suspected_spans (evidence (config_of g) hs)) [] ++ cond b (suspected_span answer_at) []
        go true = ap suspected_spans evidence_next ∙ suspected_snoc (evidence (config_of g) hs) answer_at
        go false = refl

    order_next : InOrder g.n 0 hs → Accepted g.n (end_at hs) h → InOrder g.n 0 (hs ++ (h ∷ []))
    order_next o a = in_order g.n 0 hs h o a

    module _ (xs : List ℕ) (o : InOrder g.n 0 hs) (on : is_off_iq (settled_by (config_of g)) ≡ false) (a : Accepted g.n (end_at hs) h) where
      abbrev state : InputConditioner
      state = (chain_at g xs hs).machine.state

      -- what the monitor makes of it
      seen_is : hops.watched (chain_at g xs hs).machine.state h.channels h.start (chain_at g xs hs).words
          ≡ stepped g.n (window_length g.fs) (window_at hs) h
      unfolding chain_at with_hops core process fresh_state fresh_settings
      seen_is =
          watched_by (chain_at g xs hs).machine.state h.channels h.start (chain_at g xs hs).words false (ap is_off_iq settled_at ∙ on)
          ∙ one_hop g.fs g.n (window_at hs) (end_at hs) h a

      -- the chain's machine after it
      machine_hop : hops.followed (chain_at g xs hs).machine.state (chain_at g xs hs).machine.spans (stepped g.n (window_length g.fs) (window_at hs) h)
          ≡ record {
            state = (chain_at g xs (hs ++ (h ∷ []))).machine.state;
            answer = answer_of answer_at;
            spans = (chain_at g xs (hs ++ (h ∷ []))).machine.spans;
            words = (chain_at g xs (hs ++ (h ∷ []))).words;
          }
      unfolding chain_at with_hops core process fresh_state fresh_settings
      machine_hop =
          let cap = g.spans in
          let base = (notes_in (core g xs)).logged in
          let observes = is_observing (settled_of (fresh_settings g).iq) in
          let l : foldl (uncertain cap) (foldl (uncertain cap) base (hop_marks g hs)) (cond observes (hops.suspected_by (answer_of answer_at)) [])
          ≡ foldl (uncertain cap) base (hop_marks g (hs ++ (h ∷ []))) =
          sym (foldl-append (uncertain cap) base (hop_marks g hs) (cond observes (hops.suspected_by (answer_of answer_at)) []))
          ∙ ap (λ (l : List Span). foldl (uncertain cap) base (hop_marks g hs ++ cond observes l [])) (suspected_is answer_at)
          ∙ ap (λ (b : Bool). foldl (uncertain cap) base (hop_marks g hs ++ cond b (suspected_span answer_at) [])) (ap is_observing settled_at)
          ∙ ap (foldl (uncertain cap) base) (sym marks_next) in
          let w : next_window g.n (window_length g.fs) (window_at hs) h ≡ window_at (hs ++ (h ∷ [])) = sym window_next in
          let e : hop_end g.n h ≡ end_at (hs ++ (h ∷ [])) = sym end_next in
          λ i.
          record {
            state = after_hop (core g xs).state (window_state (w i) (e i)) (l i).log;
            answer = answer_of answer_at;
            spans = (l i).spans;
            words = monitor_words g.n (w i);
          }

  pub monitor_end : (xs : List ℕ) (hs : List Hop) → (chain_at g xs hs).machine.state.monitor.end ≡ end_at hs
  unfolding chain_at with_hops
  monitor_end xs hs = end_of (window_at hs) (end_at hs)

  size_at : (xs : List ℕ) (hs : List Hop) → (chain_at g xs hs).machine.state.settings ≡ fresh_settings g
  unfolding chain_at with_hops
  size_at xs hs = settings_at xs

  n_is : (fresh_settings g).n ≡ g.n
  unfolding fresh_settings
  n_is = refl

  hop_again : (xs : List ℕ) (hs : List Hop) (h : Hop)
      → ◌≡◌ {A = Chain}
      (record {
        machine = machine_of (chain_at g xs (hs ++ (h ∷ []))).machine.state (chain_at g xs (hs ++ (h ∷ []))).machine.spans (chain_at g xs hs).machine.repairs;
        words = (chain_at g xs (hs ++ (h ∷ []))).words;
        brought = (chain_at g xs hs).brought;
        released = (chain_at g xs hs).released;
        hops = (chain_at g xs hs).hops ++ (h ∷ []);
        answers = (chain_at g xs hs).answers ++ (answer_at hs h ∷ []);
      })
      (chain_at g xs (hs ++ (h ∷ [])))
  unfolding chain_at with_hops
  hop_again xs hs h =
      λ i.
      record {
        machine = (chain_at g xs (hs ++ (h ∷ []))).machine;
        words = (chain_at g xs (hs ++ (h ∷ []))).words;
        brought = xs;
        released = hands_on (fresh_state g) xs;
        hops = hs ++ (h ∷ []);
        answers = sym (evidence_next hs h) i;
      }

  pub own_hop : (xs : List ℕ) (hs : List Hop) (h : Hop) → Reached g xs hs
      → let y = chain_at g xs hs in Taken y.machine.state h.channels h.start y.machine.spans y.words
      → Step g xs hs (hop h) xs (hs ++ (h ∷ []))
  unfolding next hops.taken
  own_hop xs hs h r t =
      let y = chain_at g xs hs in
      let c = y.machine.state in
      let n = ap (λ (z : Settings). z.n) (size_at xs hs) ∙ n_is in
      let on = ap is_off_iq (sym settled_at ∙ ap (λ (z : Settings). settled_of z.iq) (sym (size_at xs hs))) ∙ t.watching in
      let a : Accepted g.n (end_at hs) h =
      record {
        some = ap (λ (k : ℕ). image.is_none k h.channels) (sym n) ∙ t.some;
        start = ap (λ (k : ℕ). (bad_start k h.start).holds) (sym (monitor_end xs hs)) ∙ t.starts;
        parts = t.parts;
      } in
      let q = hop_taken c h.channels h.start y.machine.spans y.words t.none
      ∙ ap (hops.followed c y.machine.spans) (seen_is hs h xs r.order on a)
      ∙ machine_hop hs h xs r.order on a in
      record {
        taken = ap (λ (o : Hopped). is_accepted (image.said o.answer)) q ∙ ap is_accepted (said_is (answer_at hs h));
        is =
            ap (λ (o : Hopped). settle (hop h) all_own y (after_hopped y.machine.repairs h.channels o) (image.said o.answer)) q
            ∙ ap
            (settle (hop h) all_own y
            (after_hopped y.machine.repairs h.channels
            (record {
              state = (chain_at g xs (hs ++ (h ∷ []))).machine.state;
              answer = answer_of (answer_at hs h);
              spans = (chain_at g xs (hs ++ (h ∷ []))).machine.spans;
              words = (chain_at g xs (hs ++ (h ∷ []))).words;
            }))
            )
            (said_is (answer_at hs h))
            ∙ hop_again xs hs h;
        reached = record { usable = r.usable; few = r.few; order = order_next hs h r.order a; watching = λ e. absurd (false≢true (sym on ∙ e)) };
      }

  -- ---- any operation

  -- it leads to the chain after some samples and hops
  pub record Leads (y : Chain) : Type 0 where
    pub samples : List ℕ
    pub hops : List Hop
    pub is : y ≡ chain_at g samples hops
    pub reached : Reached g samples hops

  -- a row for each act
  steps : (xs : List ℕ) (hs : List Hop) (a : Act) → Reached g xs hs → list.Accepted (chain_at g xs hs) (ownly a) → Leads (next (chain_at g xs hs) (ownly a))
  steps xs hs (call slice) r e =
      let n = own_call xs hs slice r (ready_none (chain_at g xs hs).machine slice e) in
      record { samples = xs ++ new_part (chain_at g xs hs).machine.state slice; hops = hs; is = n.is; reached = n.reached }
  steps xs hs (hop h) r e =
      let y = chain_at g xs hs in
      let n = own_hop xs hs h r (answered_taken y.machine.state h.channels h.start y.machine.spans y.words e) in
      record { samples = xs; hops = hs ++ (h ∷ []); is = n.is; reached = n.reached }

  leads : (xs : List ℕ) (hs : List Hop) (o : Operation) → Reached g xs hs → (list.Accepted (chain_at g xs hs) o → o.lent ≡ all_own)
      → Leads (next (chain_at g xs hs) o)
  leads xs hs o r f = go (is_accepted (on (chain_at g xs hs) o).said) refl
    where
      go : (b : Bool) → is_accepted (on (chain_at g xs hs) o).said ≡ b → Leads (next (chain_at g xs hs) o)
      go true e =
          subst (λ (l : Lent). let p : Operation = record { lent = l; act = o.act } in list.Accepted (chain_at g xs hs) p → Leads (next (chain_at g xs hs) p))
          (sym (f e)) (steps xs hs o.act r) e
      go false e = record { samples = xs; hops = hs; is = not_accepted (chain_at g xs hs) o e; reached = r }

  pub ends : (xs : List ℕ) (hs : List Hop) (os : List Operation) → Reached g xs hs → Proper (chain_at g xs hs) os → Leads (run (chain_at g xs hs) os)
  ends xs hs [] r p = record { samples = xs; hops = hs; is = refl; reached = r }
  ends xs hs (o ∷ os) r p =
      let n = leads xs hs o r p.0 in
      let m = ends n.samples n.hops os n.reached (subst (λ (y : Chain). Proper y os) n.is p.1) in
      record { samples = m.samples; hops = m.hops; is = ap (λ (y : Chain). run y os) n.is ∙ m.is; reached = m.reached }
