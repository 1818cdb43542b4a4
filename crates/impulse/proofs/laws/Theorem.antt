-- The stage theorem: run from fresh over any input with no NaN part, the machine stands as the rules for that input say, and has handed on and told what they
-- say. So any cutting of the input gives the same. Assumes nothing.
use Rattle.std.specs.Prelude.{◌≡◌, Bool, ℕ, zero, suc, ◌+◌, ◌-◌, ◌<◌, ltb, Float, length, take, drop, Some, None}
use Rattle.std.proofs.Math.Path.{refl, ap}
use Rattle.std.proofs.Common.{sym, ◌∙◌, zero-mul, drop_of_length-le, take-suc, drop-cons, ltb-true, ltb-false}
use Rattle.std.proofs.Math.Bool.{true, false, cond}
use mathlib.Core.List.{List, [], ◌∷◌, ◌++◌, append-nil, append_assoc}
use Rattle.std.proofs.Math.Nat.{zero-div}
use native.Mathlib.Omega.{arith}
use Rattle.std.specs.Float.{binary32}
use Rattle.std.specs.Float.Ieee.{lt}
use Rattle.std.proofs.Math.Seq.{take-length}
use Rattle.ieee.specs.Plain.{Plain}
use Rattle.complex.specs.Complex.{sample_of, NoNan}
use Rattle.rules.specs.Constants.{zero_f}
use Rattle.rules.specs.Lists.{up_to, at, count, All}
use Rattle.rules.specs.Sort.{sort}
use Rattle.rules.proofs.laws.SortLaws.{all_append, Ordered, plain_order, power_plain}
use Rattle.rules.specs.Pauses.{always, paused}
use Rattle.rules.specs.Impulse.{Setting, width, lookahead, power_of, flagged, judged, before, start, closes, block_of, touches, mendable, value, Event}
use Rattle.rules.specs.Impulse.{uncertain, kept, mended, events_at, events, handed_on, happened}
use Rattle.impulse_pause.specs.declared.PauseEdition.{PauseEdition}
use Rattle.impulse_pause.specs.View.{edition_of}
use Rattle.impulse.specs.declared.ImpulseSuppressor.{ImpulseSuppressor}
use Rattle.impulse.specs.Machine.{fresh, going, kept_run, mended_run, Outcome, push}
use Rattle.impulse.specs.View.{ending_events, told, given}
use Rattle.impulse.specs.Running.{after, outs, step, emit, news_of, news}
use Rattle.impulse.proofs.laws.RunningLaws.{after_append, outs_append}
use Rattle.impulse.proofs.laws.CircleLaws.{circle_fresh}
use Rattle.impulse.specs.State.{open_at, left_at, ending_at, paused_by, state_at, answer_at, outcome_at}
use Rattle.impulse.proofs.laws.Step.{Fine, push_is}

-- ---- from nothing

pub fresh_is : (s : Setting) (ed : PauseEdition) (xs : List ℕ) → fresh s ed ≡ state_at s ed xs 0
unfolding state_at open_at left_at before count paused sort
fresh_is s ed xs =
    let w : 0 - width s ≡ 0 = omega arith in
    let v : width s - 0 ≡ width s = omega arith in
    let h : 0 - s.half ≡ 0 = omega arith in
    rw (w, h, circle_fresh zero_f (width s) (λ k. power_of (at xs k)), circle_fresh 0 (lookahead s) (value s (flagged s xs) (paused_by s ed xs) xs 0))
    (let d = zero-div s.block in
    let z = zero-mul s.block in
    rw (d, z, v))

received_is : (s : Setting) (ed : PauseEdition) (xs : List ℕ) (n : ℕ) → (state_at s ed xs n).gate.received ≡ n
unfolding state_at
received_is s ed xs n = refl

-- ---- one more of each list

take_step : (xs : List ℕ) (n : ℕ) → n < length xs → take n xs ++ (at xs n ∷ []) ≡ take (suc n) xs
take_step xs n h = sym (take-suc xs n 0 h)

-- what is handed on of the first n
abbrev handed : Setting → PauseEdition → List ℕ → ℕ → List ℕ
handed s ed xs n = cond s.apply (up_to (value s (flagged s xs) (paused_by s ed xs) xs (judged s (length xs))) (n - lookahead s)) (take n xs)

handed_step : (s : Setting) (ed : PauseEdition) (xs : List ℕ) (n : ℕ) → n < length xs → handed s ed xs n ++ given (answer_at s ed xs n) ≡ handed s ed xs (suc n)
unfolding answer_at up_to
handed_step s ed xs n h = go s.apply (ltb n (lookahead s)) refl
  where
    f : ℕ → ℕ
    f = value s (flagged s xs) (paused_by s ed xs) xs (judged s (length xs))

    go : (a b : Bool) → ltb n (lookahead s) ≡ b
        → cond a (up_to f (n - lookahead s)) (take n xs) ++ given (cond a (cond b None (Some (f (n - lookahead s)))) (Some (at xs n)))
        ≡ cond a (up_to f (suc n - lookahead s)) (take (suc n) xs)
    go true true e =
        let w = ltb-true n (lookahead s) e in
        let c : n - lookahead s ≡ 0 = omega arith in
        let d : suc n - lookahead s ≡ 0 = omega arith in
        rw (c, d)
    go true false e =
        let w = ltb-false n (lookahead s) e in
        let d : suc n - lookahead s ≡ suc (n - lookahead s) = omega arith in
        rw d
    go false b e = take_step xs n h

-- what is told when j is judged
told_is : (s : Setting) (F P : ℕ → Bool) (xs : List ℕ) (j : ℕ) → told j (P (block_of s j)) (ending_events (ending_at s F P xs j)) ≡ events_at s F P xs j
unfolding ending_at events_at
told_is s F P xs j =
    ap (λ (es : List Event). cond (P (block_of s j)) (uncertain j ∷ []) [] ++ es)
    (go (closes F j) (mendable s (touches s P (start F j) (before F j)) (before F j)))
  where
    go : (c m : Bool)
        → ending_events
        (cond c (cond m (mended_run (start F j) (before F j) (take (before F j) (drop (start F j) xs)))
        (kept_run (start F j) (before F j) (ltb s.run (before F j)))) going)
        ≡ cond c
        (cond m (mended (start F j) (before F j) (take (before F j) (drop (start F j) xs))) (kept (start F j) (before F j) (ltb s.run (before F j))) ∷
        []) []
    go true true = refl
    go true false = refl
    go false m = refl

news_step : (s : Setting) (ed : PauseEdition) (xs : List ℕ) (n : ℕ)
    → events s (flagged s xs) (paused_by s ed xs) xs (judged s n) ++ news_of s n (outcome_at s ed xs n) ≡ events s (flagged s xs) (paused_by s ed xs) xs (judged s (suc n))
unfolding events
news_step s ed xs n = go (ltb n s.half) refl
  where
    F : ℕ → Bool
    F = flagged s xs

    P : ℕ → Bool
    P = paused_by s ed xs

    go : (b : Bool) → ltb n s.half ≡ b
        → events s F P xs (judged s n)
        ++ told (n - s.half) (cond b false (P (block_of s (n - s.half)))) (ending_events (cond b going (ending_at s F P xs (n - s.half))))
        ≡ events s F P xs (judged s (suc n))
    go true e =
        let w = ltb-true n s.half e in
        let c : n - s.half ≡ 0 = omega arith in
        let d : suc n - s.half ≡ 0 = omega arith in
        rw (c, d)
    go false e =
        let w = ltb-false n s.half e in
        let d : suc n - s.half ≡ suc (n - s.half) = omega arith in
        rw (d, told_is s F P xs (n - s.half))

-- ---- the whole run

module _ (good : Float → Type 0) (o : Ordered lt good) (s : Setting) (ed : PauseEdition) (l : 0 < s.block) (xs : List ℕ) (fine : All (Fine good) xs) where
  pub record Led (n : ℕ) : Type 0 where
    pub state : after (step s) (state_at s ed xs n) (drop n xs) ≡ state_at s ed xs (length xs)
    pub out : handed s ed xs n ++ outs (step s) (emit s) (state_at s ed xs n) (drop n xs) ≡ handed s ed xs (length xs)
    pub told : events s (flagged s xs) (paused_by s ed xs) xs (judged s n) ++ outs (step s) (news s) (state_at s ed xs n) (drop n xs)
        ≡ events s (flagged s xs) (paused_by s ed xs) xs (judged s (length xs))

  leads : (d n : ℕ) → n + d ≡ length xs → Led n
  leads zero n e =
      let same : n ≡ length xs = omega arith in
      let gone : drop n xs ≡ [] = drop_of_length-le xs {i = n} (omega arith) in
      record {
        state = rw gone (ap (state_at s ed xs) same);
        out = rw gone (append-nil (handed s ed xs n) ∙ ap (handed s ed xs) same);
        told = rw gone (append-nil (events s (flagged s xs) (paused_by s ed xs) xs (judged s n)) ∙ ap (λ (k : ℕ). events s (flagged s xs) (paused_by s ed xs) xs (judged s k)) same);
      }
  leads (suc d) n e =
      let h : n < length xs = omega arith in
      let more : drop n xs ≡ at xs n ∷ drop (suc n) xs = drop-cons xs n 0 h in
      let p = push_is good o s ed l xs fine n h in
      let r = leads d (suc n) (omega arith) in
      record {
        state = rw more (ap (λ (q : Outcome). after (step s) q.state (drop (suc n) xs)) p ∙ r.state);
        out =
            rw more
            (ap (λ (q : Outcome). handed s ed xs n ++ (given q.answer ++ outs (step s) (emit s) q.state (drop (suc n) xs))) p
            ∙ sym (append_assoc (handed s ed xs n) (given (answer_at s ed xs n)) (outs (step s) (emit s) (state_at s ed xs (suc n)) (drop (suc n) xs)))
            ∙ ap (λ (q : List ℕ). q ++ outs (step s) (emit s) (state_at s ed xs (suc n)) (drop (suc n) xs)) (handed_step s ed xs n h)
            ∙ r.out);
        told =
            rw more
            (ap (λ (k : ℕ). events s (flagged s xs) (paused_by s ed xs) xs (judged s n)
            ++ (news_of s k (push s (state_at s ed xs n) (at xs n))
            ++ outs (step s) (news s) (step s (state_at s ed xs n) (at xs n)) (drop (suc n) xs))) (received_is s ed xs n)
            ∙ ap (λ (q : Outcome). events s (flagged s xs) (paused_by s ed xs) xs (judged s n) ++ (news_of s n q ++ outs (step s) (news s) q.state (drop (suc n) xs))) p
            ∙ sym (append_assoc (events s (flagged s xs) (paused_by s ed xs) xs (judged s n)) (news_of s n (outcome_at s ed xs n))
            (outs (step s) (news s) (state_at s ed xs (suc n)) (drop (suc n) xs)))
            ∙ ap (λ (q : List Event). q ++ outs (step s) (news s) (state_at s ed xs (suc n)) (drop (suc n) xs)) (news_step s ed xs n)
            ∙ r.told);
      }

  -- run from fresh over all of xs, the machine stands as the rules say, has handed on what they say, and has told what they say
  pub record Ruled : Type 0 where
    pub stands_so : after (step s) (fresh s ed) xs ≡ state_at s ed xs (length xs)
    pub hands_on : outs (step s) (emit s) (fresh s ed) xs ≡ handed_on s (always (edition_of ed)) xs
    pub tells : outs (step s) (news s) (fresh s ed) xs ≡ happened s (always (edition_of ed)) xs

  none_handed : handed s ed xs 0 ≡ []
  unfolding up_to
  none_handed = go s.apply
    where
      go : (a : Bool) → cond a (up_to (value s (flagged s xs) (paused_by s ed xs) xs (judged s (length xs))) (0 - lookahead s)) [] ≡ []
      go true = let z : 0 - lookahead s ≡ 0 = omega arith in rw z
      go false = refl

  none_told : events s (flagged s xs) (paused_by s ed xs) xs (judged s 0) ≡ []
  unfolding events
  none_told = let h : 0 - s.half ≡ 0 = omega arith in rw h

  all_handed : handed s ed xs (length xs) ≡ handed_on s (always (edition_of ed)) xs
  unfolding handed_on
  all_handed = rw (take-length xs)

  pub ruled : Ruled
  unfolding happened
  ruled =
      let r = leads (length xs) 0 (omega arith) in
      let f = fresh_is s ed xs in
      record {
        stands_so = ap (λ (m : ImpulseSuppressor). after (step s) m xs) f ∙ r.state;
        hands_on =
            ap (λ (m : ImpulseSuppressor). outs (step s) (emit s) m xs) f
            ∙ ap (λ (q : List ℕ). q ++ outs (step s) (emit s) (state_at s ed xs 0) xs) (sym none_handed)
            ∙ r.out
            ∙ all_handed;
        tells =
            ap (λ (m : ImpulseSuppressor). outs (step s) (news s) m xs) f
            ∙ ap (λ (q : List Event). q ++ outs (step s) (news s) (state_at s ed xs 0) xs) (sym none_told)
            ∙ r.told;
      }

-- ---- samples with no NaN part

abbrev pub Clean : ℕ → Type 0
Clean x = NoNan (sample_of x)

pub fine_all : (xs : List ℕ) → All Clean xs → All (Fine (Plain binary32)) xs
fine_all [] a = tt
fine_all (x ∷ xs) a = (power_plain x a.0, fine_all xs a.1)

-- what stands after the samples xs
abbrev pub state_of : Setting → PauseEdition → List ℕ → ImpulseSuppressor
state_of s ed xs = state_at s ed xs (length xs)

-- for every setting with blocks, so for each that is `Offered`
module _ (s : Setting) (ed : PauseEdition) (l : 0 < s.block) where
  pub whole : (xs : List ℕ) (a : All Clean xs) → Ruled (Plain binary32) (plain_order binary32) s ed l xs (fine_all xs a)
  whole xs a = ruled (Plain binary32) (plain_order binary32) s ed l xs (fine_all xs a)

  -- more samples, from where the rules for the first ones stand
  pub record Goes (xs ys : List ℕ) : Type 0 where
    pub state : after (step s) (state_of s ed xs) ys ≡ state_of s ed (xs ++ ys)
    pub out : handed_on s (always (edition_of ed)) xs ++ outs (step s) (emit s) (state_of s ed xs) ys ≡ handed_on s (always (edition_of ed)) (xs ++ ys)
    pub told : happened s (always (edition_of ed)) xs ++ outs (step s) (news s) (state_of s ed xs) ys ≡ happened s (always (edition_of ed)) (xs ++ ys)

  pub goes_on : (xs ys : List ℕ) → All Clean xs → All Clean ys → Goes xs ys
  goes_on xs ys a b =
      let w = whole xs a in
      let v = whole (xs ++ ys) (all_append Clean xs ys a b) in
      record {
        state =
            ap (λ (m : ImpulseSuppressor). after (step s) m ys) (sym w.stands_so)
            ∙ sym (after_append (step s) (fresh s ed) xs ys)
            ∙ v.stands_so;
        out =
            (λ i. sym w.hands_on i ++ outs (step s) (emit s) (sym w.stands_so i) ys)
            ∙ sym (outs_append (step s) (emit s) (fresh s ed) xs ys)
            ∙ v.hands_on;
        told =
            (λ i. sym w.tells i ++ outs (step s) (news s) (sym w.stands_so i) ys)
            ∙ sym (outs_append (step s) (news s) (fresh s ed) xs ys)
            ∙ v.tells;
      }
