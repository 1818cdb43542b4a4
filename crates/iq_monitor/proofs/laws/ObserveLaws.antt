-- What the monitor makes of a hop, by its tests' answers. Assumes nothing.
use Rattle.std.specs.Prelude.{◌≡◌, not, ◌||◌, List, ℕ, ◌≤◌, ◌<◌, ◌^◌, T, eqb, ltb, length, Float, Ok, Err}
use Rattle.std.proofs.Math.Path.{refl, ap}
use Rattle.std.proofs.Common.{sym, arith, ◌∙◌, subst, eqb-true, ltb-false, eq-eqb, ne_eqb, lt-ltb, le-ltb}
use Rattle.std.proofs.Math.Bool.{Bool, true, false, cond}
use Rattle.rules.specs.Answers.{accepted, nothing, number_of}
use Rattle.rules.specs.Monitor.{report, no_report}
use Rattle.rules.specs.Refusals.{first_of, bad_start, any_beyond, first_beyond_from}
use Rattle.amplitude_limit.specs.Limit.{returned}
use Rattle.refusal.specs.declared.Refusal.TheVariants as why
use Rattle.iq_monitor.specs.declared.Heard.TheVariants as heard
use Rattle.iq_monitor.specs.declared.ImageMonitor.{ImageMonitor}
use Rattle.iq_monitor.specs.Words.{added_hop}
use Rattle.iq_monitor.specs.Observe.{Seen, report_in, said, refused_or, hop_returned, answer_in, hop_said, first_or, end_of, full, closing, adding, accepted_of}
use Rattle.iq_monitor.specs.Observe.{leaving, is_none, observed}

pub accepted_by : (t : Bool) (m : ImageMonitor) (fs : Float) (xs : List ℕ) (start : ℕ) (ws : List Float)
    → full fs (first_or m.first start) (end_of xs start) ≡ t
    → accepted_of m fs xs start ws ≡ cond t (closing m xs start ws) (adding m xs start ws)
unfolding accepted_of
accepted_by t m fs xs start ws e = ap (λ (b : Bool). cond b (closing m xs start ws) (adding m xs start ws)) e

module _ (m : ImageMonitor) (fs : Float) (n : ℕ) (xs : List ℕ) (start : ℕ) (ws : List Float) where
  -- the answers to the three tests
  pub observed_by : (a b d : Bool) → is_none n xs ≡ a → (bad_start m.end start).holds ≡ b → (any_beyond xs).holds ≡ d
      → observed m fs n xs start ws
      ≡ cond a (leaving m ws (Ok heard.Nothing))
      (cond b (leaving m ws (Err why.Early)) (cond d (leaving m ws (Err (why.OutOfRange (first_beyond_from 0 xs)))) (accepted_of m fs xs start ws)))
  unfolding observed
  observed_by a b d e f g =
      let late : Bool → Seen = λ t. cond t (leaving m ws (Err (why.OutOfRange (first_beyond_from 0 xs)))) (accepted_of m fs xs start ws) in
      ap (λ (t : Bool). cond t (leaving m ws (Ok heard.Nothing)) (cond (bad_start m.end start).holds (leaving m ws (Err why.Early)) (late (any_beyond xs).holds))) e
      ∙ ap (λ (t : Bool). cond a (leaving m ws (Ok heard.Nothing)) (cond t (leaving m ws (Err why.Early)) (late (any_beyond xs).holds))) f
      ∙ ap (λ (t : Bool). cond a (leaving m ws (Ok heard.Nothing)) (cond b (leaving m ws (Err why.Early)) (late t))) g

  said_accepted : (t : Bool) → said (cond t (closing m xs start ws) (adding m xs start ws)).answer
      ≡ accepted (cond t (report (report_in (length xs) (added_hop xs ws (length xs)) (first_or m.first start) (end_of xs start))) no_report)
  said_accepted true = refl
  said_accepted false = refl

  said_tests : (a b d : Bool)
      → said (cond a (leaving m ws (Ok heard.Nothing))
      (cond b (leaving m ws (Err why.Early)) (cond d (leaving m ws (Err (why.OutOfRange (first_beyond_from 0 xs)))) (accepted_of m fs xs start ws)))).answer
      ≡ cond a nothing (refused_or (returned (cond b 9 (cond d 7 0)) (first_beyond_from 0 xs)) (answer_in m fs xs start ws))
  unfolding accepted_of answer_in returned
  said_tests true b d = refl
  said_tests false true d = refl
  said_tests false false true = refl
  said_tests false false false = said_accepted (full fs (first_or m.first start) (end_of xs start))

  -- the answer in document 01's words
  pub said_is : said (observed m fs n xs start ws).answer ≡ hop_said m fs n xs start ws
  unfolding hop_said hop_returned first_of
  said_is =
      let a = is_none n xs in
      let b = (bad_start m.end start).holds in
      let d = (any_beyond xs).holds in
      ap (λ (s : Seen). said s.answer) (observed_by a b d refl refl refl) ∙ said_tests a b d

  -- the monitor's refusals are 9 and 7
  number_accepted : (t : Bool) → number_of (said (cond t (closing m xs start ws) (adding m xs start ws)).answer) ≡ 5 → ⊥
  number_accepted true e = omega arith
  number_accepted false e = omega arith

  number_tests : (a b d : Bool)
      → number_of
      (said (cond a (leaving m ws (Ok heard.Nothing))
      (cond b (leaving m ws (Err why.Early)) (cond d (leaving m ws (Err (why.OutOfRange (first_beyond_from 0 xs)))) (accepted_of m fs xs start ws)))).answer)
      ≡ 5 → ⊥
  unfolding accepted_of
  number_tests true b d e = omega arith
  number_tests false true d e = omega arith
  number_tests false false true e = omega arith
  number_tests false false false e = number_accepted (full fs (first_or m.first start) (end_of xs start)) e

  pub observed_number : number_of (said (observed m fs n xs start ws).answer) ≡ 5 → ⊥
  observed_number e =
      let a = is_none n xs in
      let b = (bad_start m.end start).holds in
      let d = (any_beyond xs).holds in
      number_tests a b d (ap (λ (s : Seen). number_of (said s.answer)) (sym (observed_by a b d refl refl refl)) ∙ e)

  -- what is seen so is answered so
  pub said_seen : (s : Seen) → s ≡ observed m fs n xs start ws → said s.answer ≡ hop_said m fs n xs start ws
  said_seen s e = ap (λ (v : Seen). said v.answer) e ∙ said_is

pub wrong_length : (n : ℕ) (xs : List ℕ) → (length xs ≡ n → ⊥) → is_none n xs ≡ true
wrong_length n xs h = ap (λ (t : Bool). not t || ltb n 8) (ne_eqb (length xs) n h)

pub right_length : (t : Bool) (n : ℕ) (xs : List ℕ) → length xs ≡ n → ltb n 8 ≡ t → is_none n xs ≡ t
right_length t n xs h e = ap (λ (u : Bool). not u || ltb n 8) (eq-eqb (length xs) n h) ∙ e

pub start_above : (end start : ℕ) → 2 ^ 48 < start → (bad_start end start).holds ≡ true
start_above end start h = ap (λ (t : Bool). t || ltb start end) (lt-ltb (2 ^ 48) start h)

pub start_within : (t : Bool) (end start : ℕ) → start ≤ 2 ^ 48 → ltb start end ≡ t → (bad_start end start).holds ≡ t
start_within t end start h e = ap (λ (u : Bool). u || ltb start end) (le-ltb (2 ^ 48) start h) ∙ e

-- what is not answered by nothing
pub is_some : (n : ℕ) (xs : List ℕ) → is_none n xs ≡ false → (length xs ≡ n) × (8 ≤ n)
is_some n xs h = go (eqb (length xs) n) refl h
  where
    go : (t : Bool) → eqb (length xs) n ≡ t → (not t || ltb n 8) ≡ false → (length xs ≡ n) × (8 ≤ n)
    go true e f = (eqb-true (length xs) n e, ltb-false n 8 f)
    go false e f = absurd (subst T f tt)

-- what is not refused as number 9
pub is_next : (end start : ℕ) → (bad_start end start).holds ≡ false → (start ≤ 2 ^ 48) × (end ≤ start)
is_next end start h = go (ltb (2 ^ 48) start) refl h
  where
    go : (t : Bool) → ltb (2 ^ 48) start ≡ t → (t || ltb start end) ≡ false → (start ≤ 2 ^ 48) × (end ≤ start)
    go true e f = absurd (subst T f tt)
    go false e f = (ltb-false (2 ^ 48) start e, ltb-false start end f)
