-- Laws of an ordered array by places: a gap that moves, where a power goes, and so its insertion and removal. Assumes nothing.
use mathlib.Core.Path.{◌≡◌, refl, ap, sym, ◌∙◌}
use mathlib.Core.Bool.{Bool, true, false, cond}
use mathlib.Core.List.{List, [], ◌∷◌, ◌++◌, append_assoc}
use Prim.Native.Nat.{ℕ, zero, suc, ◌+◌, ◌-◌, ◌≤◌, ◌<◌}
use native.Mathlib.Omega.{arith}
use lib.ListN.{length, get_or, set, take, drop, length-take}
use lib.Seq.{paste, take_all, take_at, take-append-le, drop-append-le, length-take-le}
use Rattle.rules.specs.Sort.{insert, remove}
use Rattle.impulse_window.specs.Ordering.{rank, without, put_in}

-- ---- a gap

module _ {A : Type 0} where
  pub without_length : (l : List A) (i : ℕ) → i < length l → suc (length (without l i)) ≡ length l
  unfolding without
  without_length [] i h = absurd (omega arith)
  without_length (c ∷ l) zero h = refl
  without_length (c ∷ l) (suc i) h = ap suc (without_length l i (omega arith))

  pub without_split : (l : List A) (i : ℕ) → without l i ≡ take i l ++ drop (suc i) l
  unfolding without
  without_split [] zero = refl
  without_split [] (suc i) = refl
  without_split (c ∷ l) zero = refl
  without_split (c ∷ l) (suc i) = ap (λ (t : List A). c ∷ t) (without_split l i)

  -- before the gap and behind it
  pub without_before : (l : List A) (i k : ℕ) (d : A) → k < i → get_or (without l i) k d ≡ get_or l k d
  unfolding without
  without_before [] i k d h = refl
  without_before (c ∷ l) zero k d h = absurd (omega arith)
  without_before (c ∷ l) (suc i) zero d h = refl
  without_before (c ∷ l) (suc i) (suc k) d h = without_before l i k d (omega arith)

  pub without_behind : (l : List A) (i k : ℕ) (d : A) → i ≤ k → get_or (without l i) k d ≡ get_or l (suc k) d
  unfolding without
  without_behind [] i k d h = refl
  without_behind (c ∷ l) zero k d h = refl
  without_behind (c ∷ l) (suc i) zero d h = absurd (omega arith)
  without_behind (c ∷ l) (suc i) (suc k) d h = without_behind l i k d (omega arith)

  -- p at place i, below the gap: what stands from there to the gap moves up by one
  below_gap : (l : List A) (i g n : ℕ) (p : A) → g ≡ i + n → g < length l
      → set (take (suc i) l ++ take n (drop i l) ++ drop (suc g) l) i p ≡ put_in (without l g) i p
  unfolding without
  below_gap [] i g n p e h = absurd (omega arith)
  below_gap (c ∷ l) zero g n p e h =
      let f : n ≡ g = omega arith in rw f (ap (λ (t : List A). p ∷ t) (sym (without_split (c ∷ l) g)))
  below_gap (c ∷ l) (suc i) zero n p e h = absurd (omega arith)
  below_gap (c ∷ l) (suc i) (suc g) n p e h = ap (λ (t : List A). c ∷ t) (below_gap l i g n p (omega arith) (omega arith))

  pub put_below : (l : List A) (g i : ℕ) (p : A) → i < g → g < length l → set (paste l (i + 1) (drop i l) (g - i)) i p ≡ put_in (without l g) i p
  put_below l g i p h w =
      let e : i + 1 + (g - i) ≡ suc g = omega arith in
      let f : i + 1 ≡ suc i = omega arith in
      rw (e, f) (below_gap l i g (g - i) p (omega arith) w)

  -- and above it: what stands behind the gap as far as there moves down
  no_gap : (c : A) (l : List A) (i : ℕ) (p : A) → i ≤ length l → set (take i l ++ drop i (c ∷ l)) i p ≡ put_in l i p
  no_gap c l zero p h = refl
  no_gap c [] (suc i) p h = absurd (omega arith)
  no_gap c (d ∷ l) (suc i) p h = ap (λ (t : List A). d ∷ t) (no_gap d l i p (omega arith))

  above_gap : (l : List A) (g i n : ℕ) (p : A) → i ≡ g + n → i < length l
      → set (take g l ++ take n (drop (suc g) l) ++ drop i l) i p ≡ put_in (without l g) i p
  unfolding without
  above_gap [] g i n p e h = absurd (omega arith)
  above_gap (c ∷ l) zero i n p e h = let f : n ≡ i = omega arith in rw f (no_gap c l i p (omega arith))
  above_gap (c ∷ l) (suc g) zero n p e h = absurd (omega arith)
  above_gap (c ∷ l) (suc g) (suc i) n p e h = ap (λ (t : List A). c ∷ t) (above_gap l g i n p (omega arith) (omega arith))

  pub put_above : (l : List A) (g i : ℕ) (p : A) → g ≤ i → i < length l
      → set (paste l g (drop (g + 1) l) (i + 1 - (g + 1))) i p ≡ put_in (without l g) i p
  put_above l g i p h w =
      let e : g + (i + 1 - (g + 1)) ≡ i = omega arith in
      let f : g + 1 ≡ suc g = omega arith in
      rw (e, f) (above_gap l g i (i + 1 - suc g) p (omega arith) w)

-- ---- where a power goes

module _ {A : Type 0} (lt : A → A → Bool) (p : A) where
  pub rank_none : rank lt p [] ≡ 0
  unfolding rank
  rank_none = refl

  pub rank_le : (l : List A) → rank lt p l ≤ length l
  unfolding rank
  rank_le [] = omega arith
  rank_le (c ∷ l) = go (lt c p) (rank_le l)
    where
      go : (b : Bool) → rank lt p l ≤ length l → cond b (suc (rank lt p l)) 0 ≤ suc (length l)
      go true h = omega arith
      go false h = omega arith

  pub rank_take : (n : ℕ) (l : List A) → rank lt p (take n l) ≤ n
  rank_take n l = let r = rank_le (take n l) in omega (arith, length-take n l)

  -- the first k are below p: the next one is too, or it is the first that is not
  pub rank_more : (l : List A) (k : ℕ) (d : A) → k < length l → rank lt p (take k l) ≡ k → lt (get_or l k d) p ≡ true → rank lt p (take (suc k) l) ≡ suc k
  unfolding rank
  rank_more [] k d h e t = absurd (omega arith)
  rank_more (c ∷ l) zero d h e t = rw t
  rank_more (c ∷ l) (suc k) d h e t = go (lt c p) (rank_more l k d (omega arith)) e
    where
      go : (b : Bool) → (rank lt p (take k l) ≡ k → lt (get_or l k d) p ≡ true → rank lt p (take (suc k) l) ≡ suc k)
          → cond b (suc (rank lt p (take k l))) 0 ≡ suc k → cond b (suc (rank lt p (take (suc k) l))) 0 ≡ suc (suc k)
      go true r e = ap suc (r (omega arith) t)
      go false r e = absurd (omega arith)

  pub rank_stops : (l : List A) (k n : ℕ) (d : A) → k < n → n ≤ length l → rank lt p (take k l) ≡ k → lt (get_or l k d) p ≡ false → rank lt p (take n l) ≡ k
  unfolding rank
  rank_stops [] k n d h w e t = absurd (omega arith)
  rank_stops (c ∷ l) k zero d h w e t = absurd (omega arith)
  rank_stops (c ∷ l) zero (suc n) d h w e t = rw t
  rank_stops (c ∷ l) (suc k) (suc n) d h w e t = go (lt c p) (rank_stops l k n d (omega arith) (omega arith)) e
    where
      go : (b : Bool) → (rank lt p (take k l) ≡ k → lt (get_or l k d) p ≡ false → rank lt p (take n l) ≡ k)
          → cond b (suc (rank lt p (take k l))) 0 ≡ suc k → cond b (suc (rank lt p (take n l))) 0 ≡ suc k
      go true r e = ap suc (r (omega arith) t)
      go false r e = absurd (omega arith)

  -- insertion and removal, by that place
  pub insert_put : (l : List A) → insert lt p l ≡ put_in l (rank lt p l) p
  unfolding insert rank
  insert_put [] = refl
  insert_put (c ∷ l) = go (lt c p) (insert_put l)
    where
      go : (b : Bool) → insert lt p l ≡ put_in l (rank lt p l) p
          → cond b (c ∷ insert lt p l) (p ∷ c ∷ l) ≡ put_in (c ∷ l) (cond b (suc (rank lt p l)) 0) p
      go true r = ap (λ (t : List A). c ∷ t) r
      go false r = refl

  pub remove_without : (n : ℕ) (l : List A) → length l ≡ suc n → take n (remove lt p l) ≡ without l (rank lt p (take n l))
  unfolding remove rank without
  remove_without n [] h = absurd (omega arith)
  remove_without zero (c ∷ []) h = refl
  remove_without zero (c ∷ e ∷ l) h = absurd (omega arith)
  remove_without (suc n) (c ∷ l) h = go (lt c p) (remove_without n l (omega arith))
    where
      go : (b : Bool) → take n (remove lt p l) ≡ without l (rank lt p (take n l))
          → take (suc n) (cond b (c ∷ remove lt p l) l) ≡ without (c ∷ l) (cond b (suc (rank lt p (take n l))) 0)
      go true r = ap (λ (t : List A). c ∷ t) r
      go false r = take_all (suc n) l (omega arith)

-- ---- the two updates

module _ {A : Type 0} (lt : A → A → Bool) where
  pub take_without : (l : List A) (i : ℕ) → i ≤ length l → take i (without l i) ≡ take i l
  take_without l i h =
      ap (take i) (without_split l i) ∙ take_at (take i l) (drop (suc i) l) i (length-take-le i l h)

  put_front : (m r : List A) (k : ℕ) (p : A) → k ≤ length m → put_in (m ++ r) k p ≡ put_in m k p ++ r
  put_front m r k p h =
      rw (take-append-le k m r h, drop-append-le k m r h) (sym (append_assoc (take k m) (p ∷ drop k m) r))

  -- the gap is at the end of the first i
  pub growing : (l : List A) (i : ℕ) (p : A) → i ≤ length l
      → put_in (without l i) (rank lt p (take i (without l i))) p ≡ insert lt p (take i l) ++ drop (i + 1) l
  growing l i p h =
      let n = length-take-le i l h in
      let k = rank_le lt p (take i l) in
      let e : suc i ≡ i + 1 = omega arith in
      ap (λ (t : List A). put_in (without l i) (rank lt p t) p) (take_without l i h)
      ∙ ap (λ (t : List A). put_in t (rank lt p (take i l)) p) (without_split l i)
      ∙ put_front (take i l) (drop (suc i) l) (rank lt p (take i l)) p k
      ∙ ap (λ (t : List A). t ++ drop (suc i) l) (sym (insert_put lt p (take i l)))
      ∙ ap (λ (t : ℕ). insert lt p (take i l) ++ drop t l) e

  -- the gap is at the first that is not below `old`
  pub replacing : (l : List A) (n gap : ℕ) (old p : A) → length l ≡ suc n → gap ≡ rank lt old (take n (without l n))
      → put_in (without l gap) (rank lt p (take n (without l gap))) p ≡ insert lt p (take n (remove lt old l))
  replacing l n gap old p h e =
      let g : gap ≡ rank lt old (take n l) = e ∙ ap (rank lt old) (take_without l n (omega arith)) in
      let r = rank_le lt old (take n l) in
      let t = length-take-le n l (omega arith) in
      let w = without_length l gap (omega arith) in
      let all : take n (without l gap) ≡ without l gap = take_all n (without l gap) (omega arith) in
      ap (λ (m : List A). put_in (without l gap) (rank lt p m) p) all
      ∙ sym (insert_put lt p (without l gap))
      ∙ ap (λ (k : ℕ). insert lt p (without l k)) g
      ∙ ap (insert lt p) (sym (remove_without lt old n l h))
