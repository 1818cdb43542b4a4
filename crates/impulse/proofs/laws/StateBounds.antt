-- What number 5 tests holds of every state that usable samples lead to: the pending and left parts, the window's powers and their signs, the sorted list, the
-- open run, the counters. Assumes nothing.
use Rattle.std.specs.Prelude.{◌≡◌, Bool, true, false, cond, ◌&&◌, T, ltb, eqb, length, get_or, set, take, replicate, Option, Some, None}
use Rattle.std.proofs.Math.Path.{refl, ap}
use Rattle.std.proofs.Common.{sym, ◌∙◌, subst, mod-lt, mod-eq_of_lt, div-le_self, lit≤, length-set, length-append, take-suc-set, take_all, ltb-true, ltb-false}
use mathlib.Core.List.{List, [], ◌∷◌}
use Prim.Native.Nat.{ℕ, zero, suc, ◌+◌, ◌*◌, ◌-◌, ◌%◌, ◌^◌, ◌≤◌, ◌<◌, min}
use native.Mathlib.Omega.{arith}
use Rattle.std.specs.Float.Ieee.{Float, lt, of_bits, fits}
use Rattle.std.specs.Float.{nan, binary32}
use Rattle.std.proofs.lemmas.List.{length-replicate}
use Rattle.std.proofs.lemmas.Bool.{eqb-false}
use Rattle.ieee.specs.Plain.{Plain}
use Rattle.complex.specs.Complex.{word_of, sample_of, WordWithin}
use Rattle.rules.specs.Constants.{zero_f}
use Rattle.rules.specs.Lists.{at, All}
use Rattle.rules.specs.Guard.{usable}
use Rattle.rules.specs.Sort.{insert, remove, sort}
use Rattle.rules.proofs.laws.SortLaws.{all_take, all_get_d, Ordered, insert_comm, remove_insert, sort_good, sort_snoc, sort_length, plain_order}
use Rattle.rules.specs.Impulse.{Setting, width, lookahead, power_of, flagged, judged, before, start, mends, between, left_of, mended_at, covers, value}
use Rattle.rules.specs.Impulse.{newest_block}
use Rattle.rules.proofs.laws.Runs.{before_le, count_le, hit_says}
use Rattle.impulse_pause.specs.declared.PauseEdition.{PauseEdition}
use Rattle.impulse.specs.declared.Run.{Run}
use Rattle.impulse.specs.Circle.{circle}
use Rattle.impulse.proofs.laws.CircleLaws.{circle_length, circle_read_any, circle_blank, around}
use Rattle.impulse.specs.State.{run_before, open_at, left_at, newest_powers, padded, paused_by, state_at}
use Rattle.impulse.proofs.laws.Step.{Fine, newest_length, window_grows, window_moves}
use Rattle.impulse.proofs.laws.Theorem.{Clean, fine_all}
use Rattle.impulse.specs.Sound.{PowerWithin, Sound}
use Rattle.impulse.proofs.laws.PartBounds.{usable_within, within_clean, within_more, mended_within, power_sound}

-- ---- all of a circle

all_set : {A : Type 0} (P : A → Type 0) (l : List A) (i : ℕ) (a : A) → All P l → P a → All P (set l i a)
all_set P [] i a g p = tt
all_set P (x ∷ l) zero a g p = (p, g.1)
all_set P (x ∷ l) (suc i) a g p = (g.0, all_set P l i a g.1 p)

all_replicate : {A : Type 0} (P : A → Type 0) (n : ℕ) (a : A) → P a → All P (replicate n a)
all_replicate P zero a p = tt
all_replicate P (suc n) a p = (p, all_replicate P n a p)

pub all_circle : {A : Type 0} (P : A → Type 0) (d : A) (size n : ℕ) (g : ℕ → A) → P d → ((k : ℕ) → k < n → P (g k)) → All P (circle d size n g)
unfolding circle
all_circle P d size zero g p q = all_replicate P size d p
all_circle P d size (suc n) g p q =
    all_set P (circle d size n g) (n % size) (g n) (all_circle P d size n g p (λ k h. q k (omega arith))) (q n (omega arith))

-- ---- the sorted list is the sort of what the window's array holds, in the order of its places

-- a list without what is at i
abbrev others : {A : Type 0} → List A → ℕ → List A
others [] i = []
others (x ∷ l) zero = l
others (x ∷ l) (suc i) = x ∷ others l i

module _ {A : Type 0} {lt : A → A → Bool} {good : A → Type 0} (o : Ordered lt good) where
  others_good : (l : List A) (i : ℕ) → All good l → All good (others l i)
  others_good [] i g = tt
  others_good (x ∷ l) zero g = g.1
  others_good (x ∷ l) (suc i) g = (g.0, others_good l i g.1)

  sort_out : (l : List A) (i : ℕ) (d : A) → All good l → i < length l → sort lt l ≡ insert lt (get_or l i d) (sort lt (others l i)) × good (get_or l i d)
  unfolding sort
  sort_out [] i d g h = absurd (omega arith)
  sort_out (x ∷ l) zero d g h = (refl, g.0)
  sort_out (x ∷ l) (suc i) d g h =
      let r = sort_out l i d g.1 (omega arith) in
      (ap (insert lt x) r.0 ∙ insert_comm o x (get_or l i d) (sort lt (others l i)) g.0 r.1 (sort_good o (others l i) (others_good l i g.1)), r.1)

  sort_in : (l : List A) (i : ℕ) (p : A) → All good l → good p → i < length l → sort lt (set l i p) ≡ insert lt p (sort lt (others l i))
  unfolding sort
  sort_in [] i p g q h = absurd (omega arith)
  sort_in (x ∷ l) zero p g q h = refl
  sort_in (x ∷ l) (suc i) p g q h =
      ap (insert lt x) (sort_in l i p g.1 q (omega arith))
      ∙ insert_comm o x p (sort lt (others l i)) g.0 q (sort_good o (others l i) (others_good l i g.1))

  -- one place of an unsorted list changes
  sort_set : (l : List A) (i : ℕ) (p d : A) → All good l → good p → i < length l → insert lt p (remove lt (get_or l i d) (sort lt l)) ≡ sort lt (set l i p)
  sort_set l i p d g q h =
      let r = sort_out l i d g h in
      ap (λ (t : List A). insert lt p (remove lt (get_or l i d) t)) r.0
      ∙ ap (insert lt p) (remove_insert o (get_or l i d) (sort lt (others l i)) r.1)
      ∙ sym (sort_in l i p g q h)

module _ (good : Float → Type 0) (o : Ordered lt good) (zero-good : good zero_f) (s : Setting) (xs : List ℕ) (fine : All (Fine good) xs) where
  abbrev powers_at : ℕ → List Float
  powers_at n = circle zero_f (width s) n (λ k. power_of (at xs k))

  -- the two lists of powers have the same sort
  window_sorted : (n : ℕ) → n ≤ length xs → sort lt (take (min n (width s)) (powers_at n)) ≡ sort lt (newest_powers s xs n)
  unfolding circle
  window_sorted zero h =
      let w : 0 - width s ≡ 0 = omega arith in
      let z : min 0 (width s) ≡ 0 = omega arith in
      rw (w, z)
  window_sorted (suc n) h = go (ltb n (width s)) refl (window_sorted n (omega arith))
    where
      p : Float
      p = power_of (at xs n)

      len : length (powers_at n) ≡ width s
      len = circle_length zero_f (width s) n (λ k. power_of (at xs k))

      each : (k : ℕ) → k < length xs → good (power_of (at xs k))
      each k q = all_get_d (Fine good) xs k 0 fine q

      goods : All good (powers_at n)
      goods = all_circle good zero_f (width s) n (λ k. power_of (at xs k)) zero-good (λ k q. each k (omega arith))

      go : (b : Bool) → ltb n (width s) ≡ b → sort lt (take (min n (width s)) (powers_at n)) ≡ sort lt (newest_powers s xs n)
          → sort lt (take (min (suc n) (width s)) (set (powers_at n) (n % width s) (power_of (at xs n)))) ≡ sort lt (newest_powers s xs (suc n))
      go true e r =
          let w = ltb-true n (width s) e in
          let m : min n (width s) ≡ n = omega arith in
          let m' : min (suc n) (width s) ≡ suc n = omega arith in
          let i : n % width s ≡ n = mod-eq_of_lt w in
          let k = len in
          let C = powers_at n in
          ap (λ (q : ℕ). sort lt (take q (set C (n % width s) p))) m'
          ∙ ap (λ (q : ℕ). sort lt (take (suc n) (set C q p))) i
          ∙ ap (sort lt) (take-suc-set C n p (omega arith))
          ∙ sort_snoc o (take n C) p (all_take good n C goods) (each n h)
          ∙ ap (insert lt p) (ap (λ (q : ℕ). sort lt (take q C)) (sym m) ∙ r)
          ∙ window_grows good o xs fine s n h w
      go false e r =
          let w = ltb-false n (width s) e in
          let m : min n (width s) ≡ width s = omega arith in
          let m' : min (suc n) (width s) ≡ width s = omega arith in
          let z : 0 < width s = omega arith in
          let i = mod-lt n z in
          let k = len in
          let C = powers_at n in
          let all : take (width s) C ≡ C = take_all (width s) C (omega arith) in
          let kept = length-set C (n % width s) p in
          let all' : take (width s) (set C (n % width s) p) ≡ set C (n % width s) p = take_all (width s) (set C (n % width s) p) (omega arith) in
          let before_it : sort lt C ≡ sort lt (newest_powers s xs n) = ap (sort lt) (sym all ∙ ap (λ (q : ℕ). take q C) (sym m)) ∙ r in
          let old : get_or C (n % width s) nan ≡ power_of (at xs (n - width s)) =
          ap (λ (q : ℕ). get_or C q nan) (around (width s) (n - width s) n (omega arith))
          ∙ circle_read_any zero_f (width s) nan n (λ k. power_of (at xs k)) (n - width s) (omega arith) (omega arith) in
          ap (λ (q : ℕ). sort lt (take q (set C (n % width s) p))) m'
          ∙ ap (sort lt) all'
          ∙ sym (sort_set o C (n % width s) p nan goods (each n h) (omega arith))
          ∙ (λ j. insert lt p (remove lt (old j) (before_it j)))
          ∙ window_moves good o xs fine s n h w

-- ---- the open run and the left neighbour

open_ends : (s : Setting) (F P : ℕ → Bool) (j : ℕ) (r : Run) → open_at s F P j ≡ Some r → (0 < r.len) × (r.start + r.len ≡ j)
unfolding open_at
open_ends s F P j r = go (ltb 0 (before F j)) refl
  where
    out : Option Run → Run
    out None = r
    out (Some q) = q

    go : (b : Bool) → ltb 0 (before F j) ≡ b → cond b (Some (run_before s F P j)) None ≡ Some r → (0 < r.len) × (r.start + r.len ≡ j)
    go true t e =
        let h = ltb-true 0 (before F j) t in
        let b = before_le F j in
        let same : run_before s F P j ≡ r = ap out e in
        subst (λ (q : Run). (0 < q.len) × (q.start + q.len ≡ j)) same (h, omega arith)
    go false t e = let z : ◌≡◌ {A = ℕ} 0 1 = cc in absurd (omega arith)

left_keeps : (A : ℕ → Type 0) (F : ℕ → Bool) (xs : List ℕ) → ((i : ℕ) → i < length xs → A (at xs i)) → (j : ℕ) → j ≤ length xs → (x : ℕ)
    → left_at F xs j ≡ Some x → A x
unfolding left_at
left_keeps A F xs each j h x = go (eqb (start F j) 0) refl
  where
    out : Option ℕ → ℕ
    out None = x
    out (Some q) = q

    go : (b : Bool) → eqb (start F j) 0 ≡ b → cond b None (Some (at xs (start F j - 1))) ≡ Some x → A x
    go true t e = let z : ◌≡◌ {A = ℕ} 0 1 = cc in absurd (omega arith)
    go false t e = let d = eqb-false (start F j) 0 t in subst A (ap out e) (each (start F j - 1) (omega (arith, d)))

-- ---- what is handed on, from what is received

pub value_keeps : (A B : ℕ → Type 0) (s : Setting) (F P : ℕ → Bool) (xs : List ℕ) → ((x : ℕ) → A x → B x)
    → ((l r t n : ℕ) → A l → A r → t < n → n ≤ s.run → B (word_of (between (sample_of l) (sample_of r) t n)))
    → ((i : ℕ) → i < length xs → A (at xs i)) → (j k : ℕ) → j ≤ length xs → k < length xs → B (value s F P xs j k)
unfolding value mended_at
value_keeps A B s F P xs up mends-well each zero k h w = up (at xs k) (each k w)
value_keeps A B s F P xs up mends-well each (suc j) k h w =
    go (mends s F P j && covers F j k) refl (value_keeps A B s F P xs up mends-well each j k (omega arith) w)
  where
    left_well : (b : Bool) → A (cond b (at xs j) (at xs (start F j - 1)))
    left_well true = each j h
    left_well false = each (start F j - 1) (omega arith)

    go : (b : Bool) → mends s F P j && covers F j k ≡ b → B (value s F P xs j k) → B (cond b (mended_at F xs j k) (value s F P xs j k))
    go true e q =
        let t = hit_says s F P xs j k e in
        mends-well (left_of xs (start F j) (at xs j)) (at xs j) (k - start F j) (before F j) (left_well (eqb (start F j) 0)) (each j h)
        (omega (arith, t.from, t.upto)) t.short
    go false e q = q

-- ---- the state

zero_sound : PowerWithin zero_f
unfolding of_bits fits
zero_sound = (lit≤ tt, (tt, tt))

zero_within : WordWithin (2 ^ 59) 0
unfolding sample_of of_bits
zero_within = (lit≤ tt, lit≤ tt)

pub state_sound : (s : Setting) → s.run ≤ 32 → (ed : PauseEdition) (xs : List ℕ) → All (λ w. T (usable w)) xs → (n : ℕ) → n ≤ length xs → Sound s n (state_at s ed xs n)
unfolding state_at
state_sound s short ed xs good n h =
    record {
      apply = refl;
      blocklen = refl;
      received = refl;
      block = let d = div-le_self (judged s n - 1) s.block in omega arith;
      flags = let c = count_le F (newest_block s (judged s n) * s.block) (judged s n - newest_block s (judged s n) * s.block) in omega arith;
      run = open_ends s F P (judged s n);
      left = λ x e. within_more (2 ^ 57) (2 ^ 59) x (lit≤ tt) (left_keeps (WordWithin (2 ^ 57)) F xs each (judged s n) (omega arith) x e);
      pending = all_circle (WordWithin (2 ^ 59)) 0 (lookahead s) n (value s F P xs (judged s n)) zero_within
          (λ k q. value_keeps (WordWithin (2 ^ 57)) (WordWithin (2 ^ 59)) s F P xs (λ x w. within_more (2 ^ 57) (2 ^ 59) x (lit≤ tt) w)
          (λ l r t m wl wr a b. mended_within l r t m a (omega arith) wl wr) each (judged s n) k (omega arith) (omega arith));
      powers = all_circle PowerWithin zero_f (width s) n (λ k. power_of (at xs k)) zero_sound (λ k q. power_sound (at xs k) (each k (omega arith)));
      sorted = ap (padded (width s)) (sym (window_sorted (Plain binary32) (plain_order binary32) zero_sound.1 s xs (fine_all xs (cleans xs good)) n h));
      no_power = λ i a b. circle_blank zero_f (width s) n (λ k. power_of (at xs k)) i a b;
      no_sample = λ i a b. circle_blank 0 (lookahead s) n (value s F P xs (judged s n)) i a b;
      window_length_lem = circle_length zero_f (width s) n (λ k. power_of (at xs k));
      sorted_length =
          let a = length-append (sort lt (newest_powers s xs n)) (replicate (width s - length (sort lt (newest_powers s xs n))) zero_f) in
          let b = length-replicate (width s - length (sort lt (newest_powers s xs n))) zero_f in
          let c = sort_length lt (newest_powers s xs n) in
          let d = newest_length s xs n h in
          omega arith;
      pending_length = circle_length 0 (lookahead s) n (value s F P xs (judged s n));
    }
  where
    F : ℕ → Bool
    F = flagged s xs

    P : ℕ → Bool
    P = paused_by s ed xs

    each : (i : ℕ) → i < length xs → WordWithin (2 ^ 57) (at xs i)
    each i q = usable_within (at xs i) (all_get_d (λ w. T (usable w)) xs i 0 good q)

    cleans : (l : List ℕ) → All (λ w. T (usable w)) l → All Clean l
    cleans [] g = tt
    cleans (x ∷ l) g = (within_clean (2 ^ 57) x (usable_within x g.0), cleans l g.1)
