-- One push leads from what the rules give for n samples to what they give for n + 1. Assumes nothing.
use Rattle.std.specs.Prelude.{◌≡◌, ◌≢◌, not, ◌&&◌, ◌||◌, ℕ, suc, ◌+◌, ◌-◌, ◌%◌, ◌≤◌, ◌<◌, min, leb, eqb, length, set, take, drop, replicate, Option, Some, None, unwrap_or}
use Rattle.std.proofs.Math.Path.{refl, ap, sym}
use Rattle.std.proofs.Common.{◌∙◌, subst, mod-eq_of_lt, length-drop, take-suc, take_all, take_at, drop-cons, get_or-take, length-take-le}
use Rattle.std.proofs.Math.Bool.{Bool, true, false, cond}
use Rattle.std.proofs.lemmas.Bool.{false≢true}
use mathlib.Core.List.{List, [], ◌∷◌, ◌++◌, map, append-nil}
use Rattle.std.proofs.Math.Decide.{dec_lt}
use native.Mathlib.Omega.{arith}
use Rattle.std.proofs.Math.Dec.{ltb}
use Rattle.std.specs.Float.Ieee.{Float, nan, lt}
use Rattle.std.proofs.Math.ListN.{get_or}
use Rattle.std.proofs.lemmas.List.{take-append-le, drop-append-le}
use Rattle.std.proofs.Math.Seq.{drop-append-add}
use borrow.Author.Tests.{ltb-true, ltb-false, leb-true, eqb-true, eqb-false, lt-ltb, le-ltb, le-leb, ne_eqb}
use Rattle.rules.specs.Constants.{zero_f}
use Rattle.rules.specs.Lists.{at, indicator, All}
use Rattle.rules.proofs.laws.ListLaws.{length-map}
use Rattle.rules.specs.Sort.{insert, remove, sort}
use Rattle.rules.proofs.laws.SortLaws.{all_take, all_drop, all_get_d, all_map, map_snoc, Ordered, sort_length, insert_length, sort_snoc, remove_insert}
use Rattle.rules.specs.Pauses.{always}
use Rattle.rules.specs.Impulse.{Setting, width, lookahead, power_of, reference, stands_out, window, flagged, judged, before, start, block_of, touches}
use Rattle.rules.specs.Impulse.{mendable, mends, left_of, mended_at, covers, value, newest_block, flags_in}
use Rattle.rules.proofs.laws.Runs.{before_le, before_on, before_off, start_on, start_off, enter_paused, enter_flags, tally_flags, touches_more, hit_says}
use Rattle.rules.proofs.laws.Runs.{value_hit, value_miss, value_raw, value_fixed}
use Rattle.impulse_pause.specs.declared.PauseEdition.{PauseEdition}
use Rattle.impulse_pause.specs.View.{edition_of}
use Rattle.impulse.specs.declared.Run.{Run}
use Rattle.impulse.specs.declared.Gate.{Gate}
use Rattle.impulse_window.specs.Ordered.{ordered, mean}
use Rattle.impulse.specs.Machine.{arrived, with_mending, with_block, next_block, with_flagged, entered, grown, read_run, mended_word, write_run}
use Rattle.impulse.specs.Machine.{going, kept_run, mended_run, closing, closing_pending, ending, ending_pending, Judgement, decided, judge, released}
use Rattle.impulse.specs.Machine.{window_with, sorted_with, pending_with, verdict, push, flagged_by}
use Rattle.impulse.specs.Circle.{circle}
use Rattle.impulse.proofs.laws.CircleLaws.{circle_push, circle_length, circle_read, circle_read_any, circle_blank, circle_is, circle_same, around, apart}
use Rattle.impulse.proofs.laws.RunLaws.{read_run_lem, write_length, write_other, write_in}
use Rattle.impulse.specs.State.{run_before, open_at, left_at, block_at, gate_in, gate_at, ending_at, newest_powers, padded, paused_by, state_at}
use Rattle.impulse.specs.State.{answer_at, outcome_at}

-- ---- the window

-- a sample of a good power
abbrev pub Fine : (Float → Type 0) → ℕ → Type 0
Fine good x = good (power_of x)

pub newest_length : (s : Setting) (xs : List ℕ) (n : ℕ) → n ≤ length xs → length (newest_powers s xs n) ≡ min n (width s)
newest_length s xs n h =
    let a = length-map power_of (drop (n - width s) (take n xs)) in
    let b = length-drop (n - width s) (take n xs) in
    let c = length-take-le n xs h in
    omega arith

-- where it is full nothing is padded
padded_full : (w : ℕ) (l : List Float) → length l ≡ w → padded w l ≡ l
padded_full w l h = let z : w - length l ≡ 0 = omega arith in rw z (append-nil l)

-- one more in front of the zeros
padded_more : (w : ℕ) (l : List Float) (p : Float) → length l < w
    → insert lt p (take (length l) (padded w l)) ++ drop (length l + 1) (padded w l) ≡ padded w (insert lt p l)
padded_more w l p h =
    let more : w - length l ≡ suc (w - suc (length l)) = omega arith in
    let n = insert_length lt p l in
    let left : w - length (insert lt p l) ≡ w - suc (length l) = omega arith in
    rw (left, take_at l (replicate (w - length l) zero_f) (length l) refl, drop-append-add l (replicate (w - length l) zero_f) 1, more)

module _ (good : Float → Type 0) (o : Ordered lt good) (xs : List ℕ) (fine : All (Fine good) xs) where
  take_more : (n : ℕ) → n < length xs → take (suc n) xs ≡ take n xs ++ (at xs n ∷ [])
  take_more n h = take-suc xs n 0 h

  grows : (n : ℕ) → n < length xs → insert lt (power_of (at xs n)) (sort lt (map power_of (take n xs))) ≡ sort lt (map power_of (take (suc n) xs))
  grows n h =
      rw (take_more n h, map_snoc)
      (sym (sort_snoc o (map power_of (take n xs)) (power_of (at xs n)) (all_map good power_of (take n xs) (all_take (Fine good) n xs fine))
      (all_get_d (Fine good) xs n 0 fine h)))

  -- a full window, and a is the oldest's number
  module _ (n a : ℕ) (h : n < length xs) (k : a < n) where
    cut : drop a (take n xs) ≡ at xs a ∷ drop (suc a) (take n xs)
    cut =
        let len = length-take-le n xs (omega arith) in
        drop-cons (take n xs) a 0 (omega arith) ∙ ap (λ (x : ℕ). x ∷ drop (suc a) (take n xs)) (get_or-take n xs a 0 k)

    rest_good : All good (map power_of (drop (suc a) (take n xs)))
    rest_good = all_map good power_of (drop (suc a) (take n xs)) (all_drop (Fine good) (suc a) (take n xs) (all_take (Fine good) n xs fine))

    goes : remove lt (power_of (at xs a)) (sort lt (map power_of (drop a (take n xs)))) ≡ sort lt (map power_of (drop (suc a) (take n xs)))
    unfolding sort
    goes =
        ap (λ (l : List ℕ). remove lt (power_of (at xs a)) (sort lt (map power_of l))) cut
        ∙ remove_insert o (power_of (at xs a)) (sort lt (map power_of (drop (suc a) (take n xs)))) (all_get_d (Fine good) xs a 0 fine (omega arith))

    comes : insert lt (power_of (at xs n)) (sort lt (map power_of (drop (suc a) (take n xs)))) ≡ sort lt (map power_of (drop (suc a) (take (suc n) xs)))
    comes =
        let len = length-take-le n xs (omega arith) in
        let more : drop (suc a) (take (suc n) xs) ≡ drop (suc a) (take n xs) ++ (at xs n ∷ []) =
        ap (drop (suc a)) (take_more n h) ∙ drop-append-le (suc a) (take n xs) (at xs n ∷ []) (omega arith) in
        rw (more, map_snoc)
        (sym (sort_snoc o (map power_of (drop (suc a) (take n xs))) (power_of (at xs n)) rest_good (all_get_d (Fine good) xs n 0 fine h)))

  -- the sorted window takes the new power, and loses the oldest once it is full
  pub window_grows : (s : Setting) (n : ℕ) → n < length xs → n < width s
      → insert lt (power_of (at xs n)) (sort lt (newest_powers s xs n)) ≡ sort lt (newest_powers s xs (suc n))
  window_grows s n h w =
      let c : n - width s ≡ 0 = omega arith in
      let d : suc n - width s ≡ 0 = omega arith in
      rw (c, d) (grows n h)

  pub window_moves : (s : Setting) (n : ℕ) → n < length xs → width s ≤ n
      → insert lt (power_of (at xs n)) (remove lt (power_of (at xs (n - width s))) (sort lt (newest_powers s xs n))) ≡ sort lt (newest_powers s xs (suc n))
  window_moves s n h w =
      let a = n - width s in
      let d : suc n - width s ≡ suc (n - width s) = omega arith in
      rw d (ap (insert lt (power_of (at xs n))) (goes n a h (omega arith)) ∙ comes n a h (omega arith))

  -- so does the array
  pub ordered_is : (s : Setting) (n : ℕ) (old : Float) → n < length xs → (width s ≤ n → old ≡ power_of (at xs (n - width s)))
      → ordered (width s) n old (power_of (at xs n)) (padded (width s) (sort lt (newest_powers s xs n))) ≡ padded (width s) (sort lt (newest_powers s xs (suc n)))
  unfolding ordered
  ordered_is s n old h gone = go (ltb n (width s)) refl
    where
      p : Float
      p = power_of (at xs n)

      S : List Float
      S = sort lt (newest_powers s xs n)

      len : length (sort lt (newest_powers s xs n)) ≡ min n (width s)
      len = sort_length lt (newest_powers s xs n) ∙ newest_length s xs n (omega arith)

      next : length (sort lt (newest_powers s xs (suc n))) ≡ min (suc n) (width s)
      next = sort_length lt (newest_powers s xs (suc n)) ∙ newest_length s xs (suc n) h

      go : (b : Bool) → ltb n (width s) ≡ b
          → cond b (insert lt p (take n (padded (width s) S)) ++ drop (n + 1) (padded (width s) S))
          (insert lt p (take (width s - 1) (remove lt old (padded (width s) S))))
          ≡ padded (width s) (sort lt (newest_powers s xs (suc n)))
      go true e =
          let w = ltb-true n (width s) e in
          let l : n ≡ length S = omega (arith, len) in
          ap (λ (k : ℕ). insert lt p (take k (padded (width s) S)) ++ drop (k + 1) (padded (width s) S)) l
          ∙ padded_more (width s) S p (omega (arith, len))
          ∙ ap (padded (width s)) (window_grows s n h w)
      go false e =
          let w = ltb-false n (width s) e in
          let q = power_of (at xs (n - width s)) in
          let all = window_moves s n h w in
          let size : suc (length (remove lt q S)) ≡ length (sort lt (newest_powers s xs (suc n))) = sym (insert_length lt p (remove lt q S)) ∙ ap length all in
          ap (λ (l : List Float). insert lt p (take (width s - 1) (remove lt old l))) (padded_full (width s) S (omega (arith, len)))
          ∙ ap (λ (x : Float). insert lt p (take (width s - 1) (remove lt x S))) (gone w)
          ∙ ap (insert lt p) (take_all (width s - 1) (remove lt q S) (omega (arith, next)))
          ∙ all
          ∙ sym (padded_full (width s) (sort lt (newest_powers s xs (suc n))) (omega (arith, next)))

-- ---- the flag

pub flag_is : (s : Setting) (xs : List ℕ) (n j : ℕ) → n ≡ j + s.half → n < length xs
    → flagged_by (width s) s.trim (suc n) (padded (width s) (sort lt (newest_powers s xs (suc n)))) (power_of (at xs j)) ≡ flagged s xs j
unfolding flagged_by flagged reference mean
flag_is s xs n j e h =
    let W = newest_powers s xs (suc n) in
    let a : suc n - width s ≡ j - s.half = omega arith in
    let b : suc n ≡ j + s.half + 1 = omega arith in
    let same : W ≡ window s xs j = λ i. map power_of (drop (a i) (take (b i) xs)) in
    let len = newest_length s xs (suc n) h in
    let size = sort_length lt W in
    let front = take-append-le (min (suc n) (width s) - s.trim) (sort lt W) (replicate (width s - length (sort lt W)) zero_f) (omega arith) in
    ap (λ (l : List Float). stands_out (mean l) (power_of (at xs j)))
    (front
    ∙ ap (λ (k : ℕ). take (k - s.trim) (sort lt W)) (sym len)
    ∙ ap (λ (l : List Float). take (length l - s.trim) (sort lt l)) same)

-- ---- the run and its left neighbour, for any flags and any paused blocks

module _ (s : Setting) (F P : ℕ → Bool) (xs : List ℕ) where
  open_some : (j : ℕ) → 0 < before F j → open_at s F P j ≡ Some (run_before s F P j)
  unfolding open_at
  open_some j h = rw (lt-ltb 0 (before F j) h)

  open_none : (j : ℕ) → before F j ≡ 0 → open_at s F P j ≡ None
  unfolding open_at
  open_none j e = rw (le-ltb 0 (before F j) (omega arith))

  grown_is : (j : ℕ) → F j ≡ true → grown (open_at s F P j) j (P (block_of s j)) ≡ run_before s F P (suc j)
  unfolding open_at touches
  grown_is j e = go (before_on F j e) (start_on F j e) (touches_more s F P j e) (ltb 0 (before F j)) refl
    where
      Target : Bool → Type 0
      Target t = grown (cond t (Some (run_before s F P j)) None) j (P (block_of s j)) ≡ run_before s F P (suc j)

      go : before F (suc j) ≡ suc (before F j) → start F (suc j) ≡ start F j
          → touches s P (start F (suc j)) (before F (suc j)) ≡ touches s P (start F j) (before F j) || P (block_of s j)
          → (t : Bool) → ltb 0 (before F j) ≡ t → Target t
      go b a more true t =
          let n : before F j + 1 ≡ before F (suc j) = omega arith in
          λ i. record { start = sym a i; len = n i; paused = sym more i }
      go b a more false t =
          let z = ltb-false 0 (before F j) t in
          let none_yet : before F j ≡ 0 = omega arith in
          let here : j ≡ start F (suc j) = omega arith in
          let n : 1 ≡ before F (suc j) = omega arith in
          let fresh-run : touches s P (start F j) (before F j) || P (block_of s j) ≡ P (block_of s j) =
          ap (λ (k : ℕ). touches s P (start F j) k || P (block_of s j)) none_yet in
          λ i. record { start = here i; len = n i; paused = sym (more ∙ fresh-run) i }

  left_on : (j : ℕ) → F j ≡ true → left_at F xs j ≡ left_at F xs (suc j)
  unfolding left_at
  left_on j e = let a = start_on F j e in rw a

  left_off : (j : ℕ) → F j ≡ false → Some (at xs j) ≡ left_at F xs (suc j)
  unfolding left_at
  left_off j e =
      let a = start_off F j e in
      let b : start F (suc j) - 1 ≡ j = omega arith in
      rw (ne_eqb (start F (suc j)) 0 (omega arith), b)

  left_is : (j x : ℕ) → unwrap_or (left_at F xs j) x ≡ left_of xs (start F j) x
  unfolding left_at
  left_is j x = go (eqb (start F j) 0)
    where
      go : (b : Bool) → unwrap_or (cond b None (Some (at xs (start F j - 1)))) x ≡ cond b x (at xs (start F j - 1))
      go true = refl
      go false = refl

-- ---- judging, for any flags and any paused blocks

mended_word_lem : (F : ℕ → Bool) (xs : List ℕ) (j k : ℕ) → mended_at F xs j k ≡ mended_word (left_of xs (start F j) (at xs j)) (at xs j) (k - start F j) (before F j)
unfolding mended_at mended_word
mended_word_lem F xs j k = refl

mendable_short : (s : Setting) (t : Bool) (n : ℕ) → mendable s t n ≡ true → n ≤ s.run
mendable_short s t n = go s.apply (leb n s.run) t refl
  where
    go : (a b c : Bool) → leb n s.run ≡ b → a && (b && not c) ≡ true → n ≤ s.run
    go a true c e q = leb-true n s.run e
    go true false c e q = absurd (false≢true q)
    go false false c e q = absurd (false≢true q)

module _ (s : Setting) (ed : PauseEdition) (F P : ℕ → Bool) (xs : List ℕ) where
  -- what stands in pending when n + 1 have come and j are judged
  abbrev pend : ℕ → ℕ → List ℕ
  pend n j = circle 0 (lookahead s) (suc n) (value s F P xs j)

  -- no run, or one that is kept, leaves what is pending
  pend_same : (n j : ℕ) → mends s F P j ≡ false → pend n j ≡ pend n (suc j)
  unfolding value
  pend_same n j e = circle_same 0 (lookahead s) (suc n) (value s F P xs j) (value s F P xs (suc j)) (λ k h w. rw e)

  -- a run that is mended
  module _ (n j : ℕ) (here : n ≡ j + s.half) (inside : n < length xs) where
    pend_read : (k : ℕ) → before F j ≤ s.run → j ≤ k + before F j → k ≤ n → get_or (pend n j) (k % lookahead s) 0 ≡ at xs k
    pend_read k short h w =
        let b = before_le F j in
        circle_read 0 (lookahead s) (suc n) (value s F P xs j) k (omega arith) (omega arith) ∙ value_raw s F P xs j k h

    pend_right : get_or (pend n j) (j % lookahead s) 0 ≡ at xs j
    pend_right =
        circle_read 0 (lookahead s) (suc n) (value s F P xs j) j (omega arith) (omega arith) ∙ value_raw s F P xs j j (omega arith)

    pend_run : before F j ≤ s.run → read_run (lookahead s) (pend n j) (start F j) (before F j) ≡ take (before F j) (drop (start F j) xs)
    pend_run short =
        let b = before_le F j in
        read_run_lem (lookahead s) (pend n j) xs (start F j) (before F j) (omega arith) (λ i h. pend_read (start F j + i) short (omega arith) (omega arith))

    abbrev written : List ℕ
    written = write_run (lookahead s) (pend n j) (left_of xs (start F j) (at xs j)) (at xs j) (start F j) (before F j) (before F j)

    -- a place outside the run keeps what it has
    outside : (k : ℕ) → before F j ≤ s.run → k < suc n → suc n ≤ k + lookahead s → covers F j k ≡ false → (i : ℕ) → i < before F j
        → k % lookahead s ≢ (start F j + i) % lookahead s
    outside k short h w c i q =
        let b = before_le F j in
        let other : k ≢ start F j + i = λ e. false≢true (sym c ∙ rw (le-leb (start F j) k (omega arith), lt-ltb k j (omega arith))) in
        side b other (dec_lt k (start F j + i))
      where
        side : before F j ≤ j → k ≢ start F j + i → Dec (k < start F j + i) → k % lookahead s ≢ (start F j + i) % lookahead s
        side b other (yes g) = apart (lookahead s) k (start F j + i) g (omega arith)
        side b other (no g) = λ e. apart (lookahead s) (start F j + i) k (omega arith) (omega arith) (sym e)

    pend_mended : before F j ≤ s.run → mends s F P j ≡ true → written ≡ pend n (suc j)
    pend_mended short m =
        circle_is 0 (lookahead s) (suc n) (value s F P xs (suc j)) written
        (write_length (lookahead s) (pend n j) (left_of xs (start F j) (at xs j)) (at xs j) (start F j) (before F j) (before F j) ∙ len)
        (λ k h w. reads k h w (covers F j k) refl) blank
      where
        len : length (pend n j) ≡ lookahead s
        len = circle_length 0 (lookahead s) (suc n) (value s F P xs j)

        hits : (k : ℕ) (c : Bool) → covers F j k ≡ c → mends s F P j && covers F j k ≡ c
        hits k c e = rw m e

        reads : (k : ℕ) → k < suc n → suc n ≤ k + lookahead s → (c : Bool) → covers F j k ≡ c → get_or written (k % lookahead s) 0 ≡ value s F P xs (suc j) k
        reads k h w true c =
            let t = hit_says s F P xs j k (hits k true c) in
            let b = before_le F j in
            let e : start F j + (k - start F j) ≡ k = omega (arith, t.from) in
            subst (λ (x : ℕ). get_or written (x % lookahead s) 0 ≡ mended_word (left_of xs (start F j) (at xs j)) (at xs j) (k - start F j) (before F j)) e
            (write_in (lookahead s) (pend n j) (left_of xs (start F j) (at xs j)) (at xs j) (start F j) (before F j) (before F j) (k - start F j) len
            (omega arith)
            (omega (arith, t.from, t.upto)))
            ∙ sym (value_hit s F P xs j k (hits k true c) ∙ mended_word_lem F xs j k)
        reads k h w false c =
            write_other (lookahead s) (pend n j) (left_of xs (start F j) (at xs j)) (at xs j) (start F j) (before F j) (before F j) (k % lookahead s)
            (outside k short h w c)
            ∙ circle_read 0 (lookahead s) (suc n) (value s F P xs j) k h w
            ∙ sym (value_miss s F P xs j k (hits k false c))

        blank : (p : ℕ) → suc n ≤ p → p < lookahead s → get_or written p 0 ≡ 0
        blank p h w =
            let b = before_le F j in
            write_other (lookahead s) (pend n j) (left_of xs (start F j) (at xs j)) (at xs j) (start F j) (before F j) (before F j) p
            (λ i q. let g : start F j + i < lookahead s = omega arith in let e = mod-eq_of_lt g in omega arith)
            ∙ circle_blank 0 (lookahead s) (suc n) (value s F P xs j) p h w

    -- the run that ends at j, which is not flagged
    abbrev able : Bool
    able = mendable s (touches s P (start F j) (before F j)) (before F j)

    closing_is : F j ≡ false → ltb 0 (before F j) ≡ true → closing s (run_before s F P j) (pend n j) ≡ ending_at s F P xs j
    unfolding closing ending_at
    closing_is e t = rw (e, t) (go able refl)
      where
        go : (b : Bool) → able ≡ b
            → cond b (mended_run (start F j) (before F j) (read_run (lookahead s) (pend n j) (start F j) (before F j)))
            (kept_run (start F j) (before F j) (ltb s.run (before F j)))
            ≡ cond b (mended_run (start F j) (before F j) (take (before F j) (drop (start F j) xs)))
            (kept_run (start F j) (before F j) (ltb s.run (before F j)))
        go true m = ap (mended_run (start F j) (before F j)) (pend_run (mendable_short s (touches s P (start F j) (before F j)) (before F j) m))
        go false m = refl

    closing_pending_lem : F j ≡ false → ltb 0 (before F j) ≡ true → closing_pending s (run_before s F P j) (left_at F xs j) (at xs j) (pend n j) ≡ pend n (suc j)
    unfolding closing_pending mends
    closing_pending_lem e t = go able refl
      where
        mends_is : (b : Bool) → able ≡ b → mends s F P j ≡ b
        mends_is b m = rw (e, t) m

        go : (b : Bool) → able ≡ b
            → cond b (write_run (lookahead s) (pend n j) (unwrap_or (left_at F xs j) (at xs j)) (at xs j) (start F j) (before F j) (before F j)) (pend n j)
            ≡ pend n (suc j)
        go true m =
            ap (λ (x : ℕ). write_run (lookahead s) (pend n j) x (at xs j) (start F j) (before F j) (before F j)) (left_is s F P xs j (at xs j))
            ∙ pend_mended (mendable_short s (touches s P (start F j) (before F j)) (before F j) m) (mends_is true m)
        go false m = pend_same n j (mends_is false m)

    -- or none
    ending_is : F j ≡ false → ending s (open_at s F P j) (pend n j) ≡ ending_at s F P xs j
    unfolding open_at ending_at
    ending_is e = go (ltb 0 (before F j)) refl
      where
        go : (b : Bool) → ltb 0 (before F j) ≡ b → ending s (cond b (Some (run_before s F P j)) None) (pend n j) ≡ ending_at s F P xs j
        go true t = closing_is e t
        go false t = rw (e, t)

    ending_pending_lem : F j ≡ false → ending_pending s (open_at s F P j) (left_at F xs j) (at xs j) (pend n j) ≡ pend n (suc j)
    unfolding open_at mends
    ending_pending_lem e = go (ltb 0 (before F j)) refl
      where
        go : (b : Bool) → ltb 0 (before F j) ≡ b
            → ending_pending s (cond b (Some (run_before s F P j)) None) (left_at F xs j) (at xs j) (pend n j) ≡ pend n (suc j)
        go true t = closing_pending_lem e t
        go false t = let m : mends s F P j ≡ false = rw (e, t) in pend_same n j m

    -- what the rules say of the judging of j
    abbrev judgement_at : Judgement
    judgement_at =
        record { gate = gate_at s ed F P xs (suc n) (suc j); uncertain = P (block_of s j); ended = ending_at s F P xs j; pending = pend n (suc j) }

    -- the gate in the block of j
    abbrev entering : Gate
    entering = gate_in s ed F P xs (suc n) j (block_of s j)

    -- the block when j is judged too, and its flag counted
    block_is : (flag : Bool) (flags : ℕ) → F j ≡ flag → flags ≡ indicator flag + flags_in s F (block_of s j) j
        → with_flagged entering.block flags ≡ block_at s F P (suc j) (newest_block s (suc j))
    block_is flag flags e count =
        let k : j ≡ suc j - 1 = omega arith in
        let t = count ∙ ap (λ (c : Bool). indicator c + flags_in s F (block_of s j) j) (sym e) ∙ sym (tally_flags s F j) in
        ap (with_flagged entering.block) t ∙ ap (λ (i : ℕ). block_at s F P (suc j) (block_of s i)) k

    pub decided_is : (flag : Bool) → F j ≡ flag → decided s entering j (pend n j) flag ≡ judgement_at
    unfolding mends ending_at
    decided_is true e =
        let m : mends s F P j ≡ false = rw e in
        let going_on : ending_at s F P xs j ≡ going = rw e in
        let b = before_on F j e in
        let run = ap (λ (r : Run). Some r) (grown_is s F P xs j e) ∙ sym (open_some s F P xs (suc j) (omega arith)) in
        let block = block_is true (flags_in s F (block_of s j) j + 1) e (omega arith) in
        λ i.
        record {
          gate = with_block (with_mending entering (record { run = run i; left = left_on s F P xs j e i })) (block i);
          uncertain = P (block_of s j);
          ended = sym going_on i;
          pending = pend_same n j m i;
        }
    decided_is false e =
        let x = pend_right in
        let run = sym (open_none s F P xs (suc j) (before_off F j e)) in
        let left = ap (λ (y : ℕ). Some y) x ∙ left_off s F P xs j e in
        let block = block_is false (flags_in s F (block_of s j) j) e (omega arith) in
        λ i.
        record {
          gate = with_block (with_mending entering (record { run = run i; left = left i })) (block i);
          uncertain = P (block_of s j);
          ended = ending_is e i;
          pending = (ap (λ (y : ℕ). ending_pending s (open_at s F P j) (left_at F xs j) y (pend n j)) x ∙ ending_pending_lem e) i;
        }

-- ---- the step

module _ (good : Float → Type 0) (o : Ordered lt good) (s : Setting) (ed : PauseEdition) (l : 0 < s.block) (xs : List ℕ)
    (fine : All (Fine good) xs) (n : ℕ) (inside : n < length xs) where
  abbrev F : ℕ → Bool
  F = flagged s xs

  abbrev P : ℕ → Bool
  P = paused_by s ed xs

  abbrev power_at : ℕ → Float
  power_at k = power_of (at xs k)

  window_is : window_with s (state_at s ed xs n) (at xs n) ≡ circle zero_f (width s) (suc n) power_at
  unfolding state_at
  window_is = circle_push zero_f (width s) n power_at

  pending_is : pending_with s (state_at s ed xs n) (at xs n) ≡ circle 0 (lookahead s) (suc n) (value s F P xs (judged s n))
  unfolding state_at
  pending_is =
      ap (set (circle 0 (lookahead s) n (value s F P xs (judged s n))) (n % lookahead s)) (sym (value_raw s F P xs (judged s n) n (omega arith)))
      ∙ circle_push 0 (lookahead s) n (value s F P xs (judged s n))

  pub sorted_is : sorted_with s (state_at s ed xs n) (at xs n) ≡ padded (width s) (sort lt (newest_powers s xs (suc n)))
  unfolding state_at
  sorted_is =
      ordered_is good o xs fine s n (get_or (circle zero_f (width s) n power_at) (n % width s) nan) inside
      (λ w.
      let same = around (width s) (n - width s) n (omega arith) in
      ap (λ (q : ℕ). get_or (circle zero_f (width s) n power_at) q nan) same
      ∙ circle_read_any zero_f (width s) nan n power_at (n - width s) (omega arith) (omega arith))

  answer_is : released (lookahead s) s.apply n (get_or (circle 0 (lookahead s) n (value s F P xs (judged s n))) (n % lookahead s) 0) (at xs n) ≡ answer_at s ed xs n
  unfolding released answer_at
  answer_is = ap (λ (a : Option ℕ). cond s.apply a (Some (at xs n))) (go (ltb n (lookahead s)) refl)
    where
      go : (b : Bool) → ltb n (lookahead s) ≡ b
          → cond b None (Some (get_or (circle 0 (lookahead s) n (value s F P xs (judged s n))) (n % lookahead s) 0))
          ≡ cond b None (Some (value s F P xs (judged s (length xs)) (n - lookahead s)))
      go true e = refl
      go false e =
          let w = ltb-false n (lookahead s) e in
          let same = around (lookahead s) (n - lookahead s) n (omega arith) in
          let read = circle_read 0 (lookahead s) n (value s F P xs (judged s n)) (n - lookahead s) (omega arith) (omega arith) in
          let later : judged s n + (length xs - n) ≡ judged s (length xs) = omega arith in
          let fixed = value_fixed s F P xs (length xs - n) (judged s n) (n - lookahead s) (omega arith) in
          ap (λ (q : ℕ). Some q)
          (ap (λ (q : ℕ). get_or (circle 0 (lookahead s) n (value s F P xs (judged s n))) q 0) same
          ∙ read
          ∙ sym fixed
          ∙ ap (λ (q : ℕ). value s F P xs q (n - lookahead s)) later)

  -- the gate in the block of j: what knows the pause rule
  entered_is : (j : ℕ) → entered (gate_at s ed F P xs (suc n) j) j ≡ gate_in s ed F P xs (suc n) j (block_of s j)
  unfolding entered
  entered_is j = go (eqb (block_of s j) (newest_block s j)) refl
    where
      before_it : Gate
      before_it = gate_at s ed F P xs (suc n) j

      go : (b : Bool) → eqb (block_of s j) (newest_block s j) ≡ b
          → cond b before_it (with_block before_it (next_block before_it (block_of s j))) ≡ gate_in s ed F P xs (suc n) j (block_of s j)
      go true e = ap (gate_in s ed F P xs (suc n) j) (sym (eqb-true (block_of s j) (newest_block s j) e))
      go false e =
          let differ = eqb-false (block_of s j) (newest_block s j) e in
          let stops = enter_paused s F l (always (edition_of ed)) j differ in
          λ i. with_block before_it (record { number = block_of s j; flagged = sym (enter_flags s F l j differ) i; paused = stops i })

  -- when j is judged
  judge_is : (j : ℕ) → n ≡ j + s.half
      → judge s (gate_at s ed F P xs (suc n) j) j (power_at j) (padded (width s) (sort lt (newest_powers s xs (suc n))))
      (circle 0 (lookahead s) (suc n) (value s F P xs j))
      ≡ record {
        gate = gate_at s ed F P xs (suc n) (suc j);
        uncertain = P (block_of s j);
        ended = ending_at s F P xs j;
        pending =
            circle 0 (lookahead s) (suc n) (value s F P xs (suc j));
      }
  unfolding judge
  judge_is j here =
      let sorted = padded (width s) (sort lt (newest_powers s xs (suc n))) in
      let pending = circle 0 (lookahead s) (suc n) (value s F P xs j) in
      ap (λ (g : Gate). decided s g j pending (flagged_by (width s) s.trim g.received sorted (power_at j))) (entered_is j)
      ∙ ap (decided s (gate_in s ed F P xs (suc n) j (block_of s j)) j pending) (flag_is s xs n j here inside)
      ∙ decided_is s ed F P xs n j here inside (F j) refl

  abbrev verdict_at : Bool → Judgement
  verdict_at b =
      record {
        gate = gate_at s ed F P xs (suc n) (judged s (suc n));
        uncertain = cond b false (P (block_of s (n - s.half)));
        ended = cond b going (ending_at s F P xs (n - s.half));
        pending = circle 0 (lookahead s) (suc n) (value s F P xs (judged s (suc n)));
      }

  -- the gate that has received one more
  received_is : arrived (gate_at s ed F P xs n (judged s n)) ≡ gate_at s ed F P xs (suc n) (judged s n)
  received_is =
      let e : n + 1 ≡ suc n = omega arith in
      ap (λ (k : ℕ). gate_at s ed F P xs k (judged s n)) e

  -- of the gate and the arrays with sample n in them
  verdict_is : verdict s (gate_at s ed F P xs (suc n) (judged s n)) n (circle zero_f (width s) (suc n) power_at)
      (padded (width s) (sort lt (newest_powers s xs (suc n)))) (circle 0 (lookahead s) (suc n) (value s F P xs (judged s n)))
      ≡ verdict_at (ltb n s.half)
  unfolding verdict
  verdict_is = go (ltb n s.half) refl
    where
      sorted : List Float
      sorted = padded (width s) (sort lt (newest_powers s xs (suc n)))

      pending : ℕ → List ℕ
      pending j = circle 0 (lookahead s) (suc n) (value s F P xs j)

      go : (b : Bool) → ltb n s.half ≡ b
          → cond b (record { gate = gate_at s ed F P xs (suc n) (judged s n); uncertain = false; ended = going; pending = pending (judged s n) })
          (judge s (gate_at s ed F P xs (suc n) (judged s n)) (n - s.half) (get_or (circle zero_f (width s) (suc n) power_at) ((n - s.half) % width s) nan) sorted
          (pending (judged s n)))
          ≡ verdict_at b
      go true e =
          let h = ltb-true n s.half e in
          let same : n - s.half ≡ suc n - s.half = omega arith in
          λ i. record { gate = gate_at s ed F P xs (suc n) (same i); uncertain = false; ended = going; pending = pending (same i) }
      go false e =
          let h = ltb-false n s.half e in
          let j = n - s.half in
          let next : suc (n - s.half) ≡ suc n - s.half = omega arith in
          let own = circle_read_any zero_f (width s) nan (suc n) power_at j (omega arith) (omega arith) in
          ap (λ (p : Float). judge s (gate_at s ed F P xs (suc n) j) j p sorted (pending j)) own
          ∙ judge_is j (omega arith)
          ∙ ap (λ (k : ℕ). record
          { gate = gate_at s ed F P xs (suc n) k; uncertain = P (block_of s j); ended = ending_at s F P xs j; pending = pending k }) next

  pub push_is : push s (state_at s ed xs n) (at xs n) ≡ outcome_at s ed xs n
  unfolding push state_at
  push_is =
      let v = (λ i. verdict s (received_is i) n (window_is i) (sorted_is i) (pending_is i)) ∙ verdict_is in
      λ i.
      record {
        state = record { gate = (v i).gate; window = window_is i; sorted = sorted_is i; pending = (v i).pending };
        answer = answer_is i;
        uncertain = (v i).uncertain;
        ended = (v i).ended;
      }
