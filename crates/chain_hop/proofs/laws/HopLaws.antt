-- What a hop makes of its state and lent words, by the answers of its tests. Assumes nothing.
use Rattle.std.specs.Prelude.{◌≡◌, true, false, not, List, ℕ, zero, suc, ◌+◌, ◌*◌, ◌^◌, ◌≤◌, ◌<◌, eqb, length, Float, Option, None, Some, Result, Ok, Err}
use Rattle.std.proofs.Math.Path.{refl, sym, ap}
use Rattle.std.proofs.Common.{◌∙◌, subst, eqb-true, leb-true}
use Rattle.std.proofs.Math.Bool.{Bool, cond}
use Rattle.std.proofs.lemmas.Bool.{false≢true}
use native.Mathlib.Omega.{arith}
use Rattle.rules.specs.Monitor.{Answer, reported, channel_width}
use Rattle.rules.specs.Log.{span_of, store_width}
use Rattle.rules.specs.Answers.{Said, nothing, number_of}
use Rattle.rules.specs.Refusals.{first_of, bad_start, any_beyond, first_beyond_from}
use Rattle.rules.specs.Constants.{size_limit, total_limit}
use Rattle.stage_log.specs.declared.Log.{Log}
use Rattle.stage_log.specs.View.{Logged, marks_at}
use Rattle.stage_log.specs.Ready.{Fits}
use Rattle.stage_log.specs.Check.{log_fits, ends_fit}
use Rattle.stage_log.proofs.laws.CheckLaws.{log_sound, log_range}
use Rattle.iq.specs.View.{settled_of}
use Rattle.refusal.specs.declared.Refusal.{Refusal}
use Rattle.refusal.specs.declared.Refusal.TheVariants as why
use Rattle.iq_monitor.specs.declared.Heard.{Heard}
use Rattle.iq_monitor.specs.declared.Heard.TheVariants as heard
use Rattle.iq_monitor.specs.declared.ImageMonitor.{ImageMonitor}
use Rattle.iq_monitor.specs.Words.{words_fit}
use Rattle.iq_monitor.specs.Observe.{said, Seen, report_in, first_or, end_of, full, closing, adding, accepted_of, leaving, is_none, observed, hop_said}
use Rattle.iq_monitor.proofs.laws.ObserveLaws.{observed_by, observed_number, accepted_by, said_is, is_some, is_next}
use Rattle.chain_state.specs.declared.InputConditioner.{InputConditioner}
use Rattle.chain_state.specs.Fits.{begun_fits, state_fits}
use Rattle.chain_state.specs.Changed.{after_hop}
use Rattle.chain_state.proofs.laws.FitsLaws.{state_fit}
use Rattle.chain_hop.specs.Hops.{hop_refusal, fitness, is_off_iq, is_observing, numbered, hop_told, watched, noted, Hopped, followed, taken, kept, by_number, hop_of}
use Rattle.chain_hop.specs.HopReady.{Told}

-- ---- 5, 4, 5 by the answers of the tests

abbrev pub hop_number : Bool → Bool → Bool → Bool → Bool → ℕ
hop_number state spans words ends fit = cond (not state) 5 (cond (not spans) 4 (cond (not words) 4 (cond (not ends) 5 (cond (not fit) 5 0))))

-- what a hop that is not refused has
pub record Ready (c : InputConditioner) (store : List ℕ) (ws : List Float) : Type 0 where
  pub state : state_fits c ≡ true
  pub spans : length store ≡ store_width * c.settings.spans
  pub words : length ws ≡ channel_width * c.settings.n
  pub ends : ends_fit c.settings.spans (record { log = c.notes.log; spans = store }) ≡ true
  pub fit : words_fit c.settings.n ws ≡ true

module _ (c : InputConditioner) (spans : List ℕ) (ws : List Float) where
  abbrev spans_right : Bool
  spans_right = eqb (length spans) (store_width * c.settings.spans)

  abbrev words_right : Bool
  words_right = eqb (length ws) (channel_width * c.settings.n)

  abbrev ends_right : Bool
  ends_right = ends_fit c.settings.spans (record { log = c.notes.log; spans = spans })

  abbrev fit_right : Bool
  fit_right = words_fit c.settings.n ws

  pub refusal_by : (s a b e f : Bool) → state_fits c ≡ s → spans_right ≡ a → words_right ≡ b → ends_right ≡ e → fit_right ≡ f
      → hop_number s a b e f ≡ hop_refusal c spans ws
  unfolding hop_refusal first_of
  refusal_by s a b e f h1 h2 h3 h4 h5 =
      sym
      (ap (λ (t : Bool). hop_number t spans_right words_right ends_right fit_right) h1
      ∙ ap (λ (t : Bool). hop_number s t words_right ends_right fit_right) h2
      ∙ ap (λ (t : Bool). hop_number s a t ends_right fit_right) h3
      ∙ ap (λ (t : Bool). hop_number s a b t fit_right) h4
      ∙ ap (λ (t : Bool). hop_number s a b e t) h5)

  by_tests : (s a b e f : Bool) → state_fits c ≡ s → spans_right ≡ a → words_right ≡ b → ends_right ≡ e → fit_right ≡ f → eqb (hop_number s a b e f) 0 ≡ true
      → Ready c spans ws
  by_tests true true true true true h1 h2 h3 h4 h5 z = record { state = h1; spans = eqb-true _ _ h2; words = eqb-true _ _ h3; ends = h4; fit = h5 }
  by_tests true true true true false h1 h2 h3 h4 h5 z = absurd (false≢true z)
  by_tests true true true false f h1 h2 h3 h4 h5 z = absurd (false≢true z)
  by_tests true true false e f h1 h2 h3 h4 h5 z = absurd (false≢true z)
  by_tests true false b e f h1 h2 h3 h4 h5 z = absurd (false≢true z)
  by_tests false a b e f h1 h2 h3 h4 h5 z = absurd (false≢true z)

  pub refusal_none : hop_refusal c spans ws ≡ 0 → Ready c spans ws
  refusal_none z =
      by_tests _ _ _ _ _ refl refl refl refl refl (ap (λ (k : ℕ). eqb k 0) (refusal_by _ _ _ _ _ refl refl refl refl refl ∙ z))

-- ---- a report's window

first_before : (f : Option ℕ) (end start : ℕ) → begun_fits f end ≡ true → end ≤ start → first_or f start ≤ start
first_before None end start b h = omega arith
first_before (Some f) end start b h = let l : f ≤ end = leb-true f end b in omega arith

module _ (m : ImageMonitor) (fs : Float) (n : ℕ) (xs : List ℕ) (start : ℕ) (ws : List Float) where
  abbrev Fine : Seen → Type 0
  Fine s = Told s.answer

  told_closing : first_or m.first start ≤ start → start ≤ total_limit → length xs ≤ size_limit → Fine (closing m xs start ws)
  unfolding report_in reported
  told_closing f h l = (omega arith, omega arith)

  told_accepted : (t : Bool) → first_or m.first start ≤ start → start ≤ total_limit → length xs ≤ size_limit
      → Fine (cond t (closing m xs start ws) (adding m xs start ws))
  told_accepted true f h l = told_closing f h l
  told_accepted false f h l = tt

  told_by_lem : (a b d : Bool) → is_none n xs ≡ a → (bad_start m.end start).holds ≡ b → begun_fits m.first m.end ≡ true → n ≤ size_limit
      → Fine (cond a (leaving m ws (Ok heard.Nothing))
      (cond b (leaving m ws (Err why.Early)) (cond d (leaving m ws (Err (why.OutOfRange (first_beyond_from 0 xs)))) (accepted_of m fs xs start ws))))
  told_by_lem true b d e f g h = tt
  told_by_lem false true d e f g h = tt
  told_by_lem false false true e f g h = tt
  told_by_lem false false false e f g h =
      let t = full fs (first_or m.first start) (end_of xs start) in
      let some = is_some n xs e in
      let next = is_next m.end start f in
      subst Fine (sym (accepted_by t m fs xs start ws refl))
      (told_accepted t (first_before m.first m.end start g next.1) next.0 (omega (arith, some.0)))

  pub told_observed : begun_fits m.first m.end ≡ true → n ≤ size_limit → Fine (observed m fs n xs start ws)
  told_observed g h =
      let a = is_none n xs in
      let b = (bad_start m.end start).holds in
      let d = (any_beyond xs).holds in
      subst Fine (sym (observed_by m fs n xs start ws a b d refl refl refl)) (told_by_lem a b d refl refl g h)

-- ---- what the monitor makes of it, by whether IQ is off

module _ (c : InputConditioner) (xs : List ℕ) (start : ℕ) (ws : List Float) where
  pub watched_by : (t : Bool) → is_off_iq (settled_of c.settings.iq) ≡ t
      → watched c xs start ws ≡ cond t (leaving c.monitor ws (Ok heard.Nothing)) (observed c.monitor c.settings.fs c.settings.n xs start ws)
  unfolding watched
  watched_by t e = ap (λ (b : Bool). cond b (leaving c.monitor ws (Ok heard.Nothing)) (observed c.monitor c.settings.fs c.settings.n xs start ws)) e

  pub told_watched : state_fits c ≡ true → Told (watched c xs start ws).answer
  told_watched e = subst (λ (s : Seen). Told s.answer) (sym (watched_by off refl)) (go off)
    where
      off : Bool
      off = is_off_iq (settled_of c.settings.iq)

      go : (t : Bool)
          → Told (cond t (leaving c.monitor ws (Ok heard.Nothing)) (observed c.monitor c.settings.fs c.settings.n xs start ws)).answer
      go true = tt
      go false = let f = state_fit c e in told_observed c.monitor c.settings.fs c.settings.n xs start ws f.first f.settings.size

  -- and no number 5 comes from it
  pub watched_number : number_of (said (watched c xs start ws).answer) ≡ 5 → ⊥
  watched_number e = go off (ap (λ (s : Seen). number_of (said s.answer)) (sym (watched_by off refl)) ∙ e)
    where
      off : Bool
      off = is_off_iq (settled_of c.settings.iq)

      go : (t : Bool)
          → number_of (said (cond t (leaving c.monitor ws (Ok heard.Nothing)) (observed c.monitor c.settings.fs c.settings.n xs start ws)).answer) ≡ 5 → ⊥
      go true f = omega arith
      go false f = observed_number c.monitor c.settings.fs c.settings.n xs start ws f

-- a mark may follow
pub mark_ready : (cap : ℕ) (x : Logged) (k start len : ℕ) → log_fits cap x.log ≡ true → length x.spans ≡ cap * store_width → k < 12 → start + len ≤ 2 ^ 52
    → Fits cap x k (span_of start len)
unfolding marks_at
mark_ready cap x k start len e l h s =
    let r = log_range cap x.log k e h in
    record {
      store = l;
      marks = record
          { ring = record { sound = log_sound cap x k e l h; dropped = omega (arith, r.dropped) }; count = omega (arith, r.count); last = omega arith };
    }

-- ---- the state and the words

module _ (c : InputConditioner) (xs : List ℕ) (start : ℕ) (spans : List ℕ) (ws : List Float) where
  abbrev before : Logged
  before = record { log = c.notes.log; spans = spans }

  abbrev noting : Result Heard Refusal → Logged
  noting a = noted c.settings.spans (is_observing (settled_of c.settings.iq)) a before

  -- from what the monitor made of it and what was marked
  taken_with : (m : ImageMonitor) (a : Result Heard Refusal) (l : Log) (out : List ℕ) (w : List Float)
      → ◌≡◌ {A = Seen} (record { monitor = m; answer = a; words = w }) (watched c xs start ws)
      → ◌≡◌ {A = Logged} (record { log = l; spans = out }) (noting a)
      → ◌≡◌ {A = Hopped} (record { state = after_hop c m l; answer = a; spans = out; words = w }) (taken c xs start spans ws)
  unfolding taken
  taken_with m a l out w p q = (λ i. record { state = after_hop c m (q i).log; answer = a; spans = (q i).spans; words = w }) ∙ ap (followed c spans) p

  -- the same, where s is the state after the monitor has seen it
  pub taken_by : (s : InputConditioner) (a : Result Heard Refusal) (l : Log) (out : List ℕ) (w : List Float) → s ≡ after_hop c s.monitor c.notes.log
      → ◌≡◌ {A = Seen} (record { monitor = s.monitor; answer = a; words = w }) (watched c xs start ws)
      → ◌≡◌ {A = Logged} (record { log = l; spans = out })
      (noted s.settings.spans (is_observing (settled_of s.settings.iq)) a (record { log = s.notes.log; spans = spans }))
      → ◌≡◌ {A = Hopped} (record { state = after_hop s s.monitor l; answer = a; spans = out; words = w }) (taken c xs start spans ws)
  taken_by s a l out w e p q =
      (λ i. record { state = after_hop (e i) s.monitor l; answer = a; spans = out; words = w })
      ∙ taken_with s.monitor a l out w p
      (q
      ∙ ap (λ (v : InputConditioner). noted v.settings.spans (is_observing (settled_of v.settings.iq)) a (record { log = v.notes.log; spans = spans })) e)

  -- ---- by the number

  pub hop_taken : hop_refusal c spans ws ≡ 0 → hop_of c xs start spans ws ≡ taken c xs start spans ws
  unfolding hop_of
  hop_taken e = rw e

  refused_by : (k : ℕ) (r : Refusal) (h : Hopped) → Err r ≡ fitness k → kept c spans ws (Err r) ≡ by_number k c spans ws h
  refused_by zero r h e = cc
  refused_by (suc k) r h e = cc

  -- refused by what the tests of the state and the lent words give
  pub hop_refused : (r : Refusal) → Err r ≡ fitness (hop_refusal c spans ws) → kept c spans ws (Err r) ≡ hop_of c xs start spans ws
  unfolding hop_of
  hop_refused r e = refused_by (hop_refusal c spans ws) r (taken c xs start spans ws) e

  -- ---- the answer in document 01's words

  abbrev told : Said Answer
  told = cond (is_off_iq (settled_of c.settings.iq)) nothing (hop_said c.monitor c.settings.fs c.settings.n xs start ws)

  said_watched : said (taken c xs start spans ws).answer ≡ told
  unfolding taken
  said_watched = ap (λ (s : Seen). said s.answer) (watched_by c xs start ws off refl) ∙ go off
    where
      off : Bool
      off = is_off_iq (settled_of c.settings.iq)

      go : (t : Bool)
          → said (cond t (leaving c.monitor ws (Ok heard.Nothing)) (observed c.monitor c.settings.fs c.settings.n xs start ws)).answer
          ≡ cond t nothing (hop_said c.monitor c.settings.fs c.settings.n xs start ws)
      go true = refl
      go false = said_is c.monitor c.settings.fs c.settings.n xs start ws

  said_by_tests : (s a b e f : Bool)
      → said (by_number (hop_number s a b e f) c spans ws (taken c xs start spans ws)).answer ≡ numbered (hop_number s a b e f) told
  said_by_tests true true true true true = said_watched
  said_by_tests true true true true false = refl
  said_by_tests true true true false f = refl
  said_by_tests true true false e f = refl
  said_by_tests true false b e f = refl
  said_by_tests false a b e f = refl

  pub said_hop_is : said (hop_of c xs start spans ws).answer ≡ hop_told c xs start spans ws
  unfolding hop_of hop_told
  said_hop_is =
      subst (λ (k : ℕ). said (by_number k c spans ws (taken c xs start spans ws)).answer ≡ numbered k told)
      (refusal_by c spans ws _ _ _ _ _ refl refl refl refl refl)
      (said_by_tests (state_fits c) (spans_right c spans ws) (words_right c spans ws) (ends_right c spans ws) (fit_right c spans ws))

-- no number, no refusal
pub none_refused : (k : ℕ) → Ok tt ≡ fitness k → k ≡ 0
none_refused zero e = refl
none_refused (suc k) e = cc
