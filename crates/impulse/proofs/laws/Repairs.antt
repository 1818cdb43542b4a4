-- Each mended place has its original in a record, and no other place differs from its input: so undoing the records returns the input. Of the rules alone.
-- Assumes nothing.
use Rattle.std.specs.Prelude.{◌≡◌, ◌⊎◌, Bool, ◌&&◌, leb, length, set, drop, replicate}
use Rattle.std.proofs.Math.Path.{refl, ap}
use Rattle.std.proofs.Common.{sym, ◌∙◌, ⊎_elim, arith, length-set, length-drop, get_or-set_same, get_or-set_other, get_or-take, get_or-drop, ext_get_or, length-take-le}
use Rattle.std.proofs.Math.Logic.{inl, inr}
use Rattle.std.proofs.Math.Bool.{true, false, cond, not, false≢true}
use mathlib.Core.List.{List, [], ◌∷◌, ◌++◌}
use Prim.Native.Nat.{ℕ, zero, suc, ◌+◌, ◌-◌, ◌≤◌, ◌<◌}
use Rattle.std.proofs.Math.Decide.{ℕ_discrete}
use Rattle.std.proofs.Math.Dec.{ltb}
use Rattle.std.proofs.Math.ListN.{take, get_or-append}
use borrow.Author.Tests.{ltb-true, leb-true, lt-ltb, le-leb}
use Rattle.rules.specs.Lists.{at, up_to, All}
use Rattle.rules.proofs.laws.ListLaws.{length_up_to, get_d_up_to}
use Rattle.rules.proofs.laws.EventLaws.{repairs_append}
use Rattle.rules.proofs.laws.SortLaws.{all_append}
use Rattle.rules.specs.Pauses.{Edition}
use Rattle.rules.specs.Impulse.{Setting, lookahead, flagged, judged, before, start, closes, block_of, touches, mendable, mends, covers, value, uncertain}
use Rattle.rules.specs.Impulse.{kept, mended, events_at, events, paused_in, handed_on, happened, longest_run}
use Rattle.rules.specs.Log.{repair_words, repairs_of}
use Rattle.rules.specs.Undo.{returned, undone, undone_all}
use Rattle.rules.proofs.laws.Runs.{before_le, hit_says, value_missed}

-- ---- a record of the input

-- its originals are the samples of xs from its start on
pub record Original (xs : List ℕ) (e : List ℕ) : Type 0 where
  pub some : 0 < at e 1
  pub short : at e 1 ≤ longest_run
  pub inside : at e 0 + at e 1 ≤ length xs
  pub holds : (t : ℕ) → t < at e 1 → at e (2 + t) ≡ at xs (at e 0 + t)

abbrev pub In : ℕ → List ℕ → Type 0
In k e = (at e 0 ≤ k) × (k < at e 0 + at e 1)

-- one of the records has sample k
abbrev pub Covered : ℕ → List (List ℕ) → Type 0
Covered k [] = ⊥
Covered k (e ∷ es) = In k e ⊎ Covered k es

-- the record of a run of at most four
pub run_original : (xs : List ℕ) (a n : ℕ) → 0 < n → n ≤ longest_run → a + n ≤ length xs → Original xs (repair_words a n (take n (drop a xs)))
unfolding repair_words
run_original xs a n z w h =
    record {
      some = z;
      short = w;
      inside = h;
      holds =
          λ t q.
          let d = length-drop a xs in
          let l = length-take-le n (drop a xs) (omega arith) in
          let two : 2 + t ≡ suc (suc t) = omega arith in
          ap (at (a ∷ n ∷ take longest_run (take n (drop a xs) ++ replicate longest_run 0))) two
          ∙ get_or-take longest_run (take n (drop a xs) ++ replicate longest_run 0) t 0 (omega arith)
          ∙ get_or-append (take n (drop a xs)) (replicate longest_run 0) 0 t (omega arith)
          ∙ get_or-take n (drop a xs) t 0 q
          ∙ get_or-drop a xs t 0;
    }

covered_left : (k : ℕ) (es fs : List (List ℕ)) → Covered k es → Covered k (es ++ fs)
covered_left k [] fs c = absurd c
covered_left k (e ∷ es) fs (inl c) = inl c
covered_left k (e ∷ es) fs (inr c) = inr (covered_left k es fs c)

covered_right : (k : ℕ) (es fs : List (List ℕ)) → Covered k fs → Covered k (es ++ fs)
covered_right k [] fs c = c
covered_right k (e ∷ es) fs c = inr (covered_right k es fs c)

-- ---- the records of the rules

module _ (s : Setting) (F P : ℕ → Bool) (xs : List ℕ) where
  -- the record of the run that ends at j
  abbrev record_at : ℕ → List ℕ
  record_at j = repair_words (start F j) (before F j) (take (before F j) (drop (start F j) xs))

  repairs_at : (j : ℕ) → repairs_of (events_at s F P xs j) ≡ cond (mends s F P j) (record_at j ∷ []) []
  unfolding events_at repairs_of mends
  repairs_at j = go (P (block_of s j)) (closes F j) (mendable s (touches s P (start F j) (before F j)) (before F j))
    where
      originals : List ℕ
      originals = take (before F j) (drop (start F j) xs)

      go : (p c m : Bool)
          → repairs_of
          (cond p (uncertain j ∷ []) []
          ++ cond c (cond m (mended (start F j) (before F j) originals) (kept (start F j) (before F j) (ltb s.run (before F j))) ∷ []) [])
          ≡ cond (c && m) (record_at j ∷ []) []
      go true true true = refl
      go true true false = refl
      go true false m = refl
      go false true true = refl
      go false true false = refl
      go false false m = refl

  repairs_next : (j : ℕ) → repairs_of (events s F P xs (suc j)) ≡ repairs_of (events s F P xs j) ++ cond (mends s F P j) (record_at j ∷ []) []
  unfolding events
  repairs_next j = repairs_append (events s F P xs j) (events_at s F P xs j) ∙ ap (λ (t : List (List ℕ)). repairs_of (events s F P xs j) ++ t) (repairs_at j)

  -- what a mended run is
  record Mends (j : ℕ) : Type 0 where
    some : 0 < before F j
    short : before F j ≤ s.run

  mends_says : (j : ℕ) → mends s F P j ≡ true → Mends j
  unfolding mends
  mends_says j m = go (closes F j) (mendable s (touches s P (start F j) (before F j)) (before F j)) refl refl m
    where
      run_there : (f b : Bool) → ltb 0 (before F j) ≡ b → not f && b ≡ true → 0 < before F j
      run_there true b e q = absurd (false≢true q)
      run_there false true e q = ltb-true 0 (before F j) e
      run_there false false e q = absurd (false≢true q)

      is_short : (a b c : Bool) → leb (before F j) s.run ≡ b → a && (b && c) ≡ true → before F j ≤ s.run
      is_short a true c e q = leb-true (before F j) s.run e
      is_short true false c e q = absurd (false≢true q)
      is_short false false c e q = absurd (false≢true q)

      go : (c n : Bool) → closes F j ≡ c → mendable s (touches s P (start F j) (before F j)) (before F j) ≡ n → c && n ≡ true → Mends j
      go true true p q e =
          record {
            some = run_there (F j) (ltb 0 (before F j)) refl p;
            short = is_short s.apply (leb (before F j) s.run) (not (touches s P (start F j) (before F j))) refl q;
          }
      go true false p q e = absurd (false≢true e)
      go false n p q e = absurd (false≢true e)

  -- each record is the input's, where a record has room for the longest run
  pub all_original : s.run ≤ longest_run → (j : ℕ) → j ≤ length xs → All (Original xs) (repairs_of (events s F P xs j))
  unfolding events repairs_of
  all_original r zero h = tt
  all_original r (suc j) h =
      rw (repairs_next j)
      (all_append (Original xs) (repairs_of (events s F P xs j)) (cond (mends s F P j) (record_at j ∷ []) []) (all_original r j (omega arith))
      (go (mends s F P j) refl))
    where
      go : (b : Bool) → mends s F P j ≡ b → All (Original xs) (cond b (record_at j ∷ []) [])
      go true e =
          let m = mends_says j e in
          let b = before_le F j in
          (run_original xs (start F j) (before F j) m.some (omega (arith, m.short)) (omega arith), tt)
      go false e = tt

  in_record : (j k : ℕ) → start F j ≤ k → k < j → In k (record_at j)
  unfolding repair_words
  in_record j k a b = let w = before_le F j in (a, omega arith)

  -- a place is as it was received, or a record has it
  pub raw_or_recorded : (j k : ℕ) → (value s F P xs j k ≡ at xs k) ⊎ Covered k (repairs_of (events s F P xs j))
  unfolding value events
  raw_or_recorded zero k = inl refl
  raw_or_recorded (suc j) k = rw (repairs_next j) (go (mends s F P j) (covers F j k) refl refl (raw_or_recorded j k))
    where
      go : (m c : Bool) → mends s F P j ≡ m → covers F j k ≡ c → (value s F P xs j k ≡ at xs k) ⊎ Covered k (repairs_of (events s F P xs j))
          → (value s F P xs (suc j) k ≡ at xs k) ⊎ Covered k (repairs_of (events s F P xs j) ++ cond m (record_at j ∷ []) [])
      go true true e f r =
          let t = hit_says s F P xs j k (rw e f) in
          inr (covered_right k (repairs_of (events s F P xs j)) (record_at j ∷ []) (inl (in_record j k t.from t.upto)))
      go true false e f (inl q) = inl (rw (e, f) q)
      go true false e f (inr q) = inr (covered_left k (repairs_of (events s F P xs j)) (record_at j ∷ []) q)
      go false c e f (inl q) = inl (rw e q)
      go false c e f (inr q) = inr (covered_left k (repairs_of (events s F P xs j)) [] q)

  -- nothing is mended while observing
  pub value_observed : s.apply ≡ false → (j k : ℕ) → value s F P xs j k ≡ at xs k
  unfolding value
  value_observed off zero k = refl
  value_observed off (suc j) k = value_missed s F P xs j k (λ t. false≢true (sym off ∙ t.applies)) ∙ value_observed off j k

-- ---- undoing

module _ (xs : List ℕ) (first : ℕ) where
  -- place i of the slice ys is as it was received
  abbrev Right : List ℕ → ℕ → Type 0
  Right ys i = at ys i ≡ at xs (first + i)

  returned_length : (ys : List ℕ) (k o : ℕ) → length (returned first ys k o) ≡ length ys
  returned_length ys k o = go (leb first k && ltb (k - first) (length ys))
    where
      go : (b : Bool) → length (cond b (set ys (k - first) o) ys) ≡ length ys
      go true = length-set ys (k - first) o
      go false = refl

  undone_length : (e : List ℕ) (t : ℕ) (ys : List ℕ) → length (undone first e t ys) ≡ length ys
  unfolding undone
  undone_length e zero ys = refl
  undone_length e (suc t) ys = returned_length (undone first e t ys) (at e 0 + t) (at e (2 + t)) ∙ undone_length e t ys

  -- the sample's own place, and the others
  returned_here : (ys : List ℕ) (i o : ℕ) → i < length ys → at (returned first ys (first + i) o) i ≡ o
  returned_here ys i o h =
      let d : first + i - first ≡ i = omega arith in
      rw (le-leb first (first + i) (omega arith), d, lt-ltb i (length ys) h) (get_or-set_same ys i o 0 h)

  returned_other : (ys : List ℕ) (k i o : ℕ) → (first + i ≡ k → ⊥) → at (returned first ys k o) i ≡ at ys i
  returned_other ys k i o differ = go (leb first k) (ltb (k - first) (length ys)) refl
    where
      go : (a b : Bool) → leb first k ≡ a → at (cond (a && b) (set ys (k - first) o) ys) i ≡ at ys i
      go true true e = let l = leb-true first k e in get_or-set_other ys (k - first) i o 0 (λ q. differ (omega arith))
      go true false e = refl
      go false b e = refl

  undone_at : (e : List ℕ) → Original xs e → (t : ℕ) (ys : List ℕ) (i : ℕ) → t ≤ at e 1 → i < length ys
      → Right ys i ⊎ ((at e 0 ≤ first + i) × (first + i < at e 0 + t)) → Right (undone first e t ys) i
  unfolding undone
  undone_at e o zero ys i w h (inl r) = r
  undone_at e o zero ys i w h (inr c) = absurd (omega (arith, c.0, c.1))
  undone_at e o (suc t) ys i w h c = go (ℕ_discrete (first + i) (at e 0 + t)) c (λ d. undone_at e o t ys i (omega arith) h d)
    where
      go : Dec (first + i ≡ at e 0 + t) → Right ys i ⊎ ((at e 0 ≤ first + i) × (first + i < at e 0 + suc t))
          → (Right ys i ⊎ ((at e 0 ≤ first + i) × (first + i < at e 0 + t)) → Right (undone first e t ys) i)
          → Right (returned first (undone first e t ys) (at e 0 + t) (at e (2 + t))) i
      go (yes q) c rec =
          ap (λ (k : ℕ). at (returned first (undone first e t ys) k (at e (2 + t))) i) (sym q)
          ∙ returned_here (undone first e t ys) i (at e (2 + t)) (let l = undone_length e t ys in omega arith)
          ∙ o.holds t w
          ∙ ap (at xs) (sym q)
      go (no q) (inl r) rec = returned_other (undone first e t ys) (at e 0 + t) i (at e (2 + t)) q ∙ rec (inl r)
      go (no q) (inr c) rec =
          returned_other (undone first e t ys) (at e 0 + t) i (at e (2 + t)) q
          ∙ rec (inr (c.0, omega (arith, c.1)))

  all_length : (es : List (List ℕ)) (ys : List ℕ) → length (undone_all first es ys) ≡ length ys
  unfolding undone_all
  all_length [] ys = refl
  all_length (e ∷ es) ys = all_length es (undone first e (at e 1) ys) ∙ undone_length e (at e 1) ys

  all_at : (es : List (List ℕ)) → All (Original xs) es → (ys : List ℕ) (i : ℕ) → i < length ys → Right ys i ⊎ Covered (first + i) es
      → Right (undone_all first es ys) i
  unfolding undone_all
  all_at [] o ys i h (inl r) = r
  all_at [] o ys i h (inr c) = absurd c
  all_at (e ∷ es) o ys i h c =
      all_at es o.1 (undone first e (at e 1) ys) i (let l = undone_length e (at e 1) ys in omega arith) (go c)
    where
      step : Right ys i ⊎ In (first + i) e → Right (undone first e (at e 1) ys) i
      step d = undone_at e o.0 (at e 1) ys i (omega arith) h d

      go : Right ys i ⊎ (In (first + i) e ⊎ Covered (first + i) es) → Right (undone first e (at e 1) ys) i ⊎ Covered (first + i) es
      go (inl r) = inl (step (inl r))
      go (inr (inl d)) = inl (step (inr d))
      go (inr (inr d)) = inr d

  -- each place of the slice is right or recorded: the input returns
  pub undo_returns : (es : List (List ℕ)) (ys : List ℕ) → All (Original xs) es → first + length ys ≤ length xs
      → ((i : ℕ) → i < length ys → Right ys i ⊎ Covered (first + i) es) → undone_all first es ys ≡ take (length ys) (drop first xs)
  undo_returns es ys o w d =
      let a = all_length es ys in
      let c = length-drop first xs in
      let b = length-take-le (length ys) (drop first xs) (omega arith) in
      ext_get_or 0 (undone_all first es ys) (take (length ys) (drop first xs)) (omega arith)
      (λ i h.
      let k : i < length ys = omega arith in
      all_at es o ys i k (d i k) ∙ sym (get_or-take (length ys) (drop first xs) i 0 k ∙ get_or-drop first xs i 0))

-- any slice of what the stage hands on
pub undo_slice : (s : Setting) → s.run ≤ longest_run → (E : ℕ → Edition) (xs ys : List ℕ) (first : ℕ) → first + length ys ≤ length xs
    → ((i : ℕ) → i < length ys → at ys i ≡ value s (flagged s xs) (paused_in s E xs) xs (judged s (length xs)) (first + i))
    → undone_all first (repairs_of (happened s E xs)) ys ≡ take (length ys) (drop first xs)
unfolding happened
undo_slice s r E xs ys first w same =
    undo_returns xs first (repairs_of (events s (flagged s xs) (paused_in s E xs) xs (judged s (length xs)))) ys
    (all_original s (flagged s xs) (paused_in s E xs) xs r (judged s (length xs)) (omega arith)) w
    (λ i h. ⊎_elim (λ e. inl (same i h ∙ e)) (λ c. inr c) (raw_or_recorded s (flagged s xs) (paused_in s E xs) xs (judged s (length xs)) (first + i)))

pub undo_handed : (s : Setting) → s.run ≤ longest_run → (E : ℕ → Edition) (xs : List ℕ)
    → undone_all 0 (repairs_of (happened s E xs)) (handed_on s E xs) ≡ take (length (handed_on s E xs)) xs
unfolding handed_on
undo_handed s r E xs = go s.apply refl
  where
    f : ℕ → ℕ
    f = value s (flagged s xs) (paused_in s E xs) xs (judged s (length xs))

    n : ℕ
    n = length xs - lookahead s

    go : (a : Bool) → s.apply ≡ a → undone_all 0 (repairs_of (happened s E xs)) (cond a (up_to f n) xs) ≡ take (length (cond a (up_to f n) xs)) xs
    go true e =
        let len = length_up_to f n in
        undo_slice s r E xs (up_to f n) 0 (omega arith) (λ i h. get_d_up_to 0 f n i (omega arith) ∙ ap f (let q : i ≡ 0 + i = omega arith in q))
    go false e =
        undo_slice s r E xs xs 0 (omega arith)
        (λ i h. ap (at xs) (let q : i ≡ 0 + i = omega arith in q) ∙ sym (value_observed s (flagged s xs) (paused_in s E xs) xs e (judged s (length xs)) (0 + i)))
