-- Laws of powers that ascend from 0 on: what the test says; one power replaced by minima and maxima is a removal and an insertion, and the powers still ascend.
-- Assumes nothing.
use mathlib.Core.Path.{◌≡◌, refl, sym, ap, ◌∙◌, subst}
use mathlib.Core.Bool.{Bool, true, false, cond, ◌&&◌}
use mathlib.Core.List.{List, [], ◌∷◌}
use Prim.Native.Nat.{ℕ, zero, suc, ◌+◌, ◌≤◌, ◌<◌}
use native.Mathlib.Omega.{arith}
use lib.ListN.{length, get_or, set, take}
use lib.Seq.{take_all, take-suc, take-suc-set}
use lib.Ieee.{Float, nan, binary32, of_bits, fits, lt, le}
use Rattle.ieee.specs.Plain.{key}
use Rattle.rules.specs.Constants.{zero_f}
use Rattle.rules.specs.Sort.{insert, remove}
use Rattle.rules.proofs.laws.SortLaws.{all_append}
use Rattle.rules.specs.Lists.{All}
use Rattle.impulse_window.specs.Rising.{climbs, NotNegative, Held, Rising, least, most, moved, blended_from, blended}
use Rattle.impulse_window.proofs.Sizes.{both_true, below, not_below, stays, higher, at_most}

-- ---- the test

join : (x y z : Bool) → (x && (y && z)) ≡ (x && y && z)
join true y z = refl
join false y z = refl

last : (x y : Bool) → (x && (y && true)) ≡ (x && true && y)
last true true = refl
last true false = refl
last false y = refl

unless : (x : Bool) → (x && true) ≡ x
unless true = refl
unless false = refl

module _ (by : Float → Float → Bool) where
  pub climbs_one : (z : Float) (l : List Float) (d : Float) → 0 < length l → climbs by z (take 1 l) ≡ by z (get_or l 0 d)
  unfolding climbs
  climbs_one z [] d h = absurd (omega arith)
  climbs_one z (a ∷ l) d h = unless (by z a)

  pub climbs_more : (z : Float) (l : List Float) (k : ℕ) (d : Float) → suc k < length l
      → climbs by z (take (suc (suc k)) l) ≡ (climbs by z (take (suc k) l) && by (get_or l k d) (get_or l (suc k) d))
  unfolding climbs
  climbs_more z [] k d h = absurd (omega arith)
  climbs_more z (a ∷ []) k d h = absurd (omega arith)
  climbs_more z (a ∷ b ∷ l) zero d h = last (by z a) (by a b)
  climbs_more z (a ∷ b ∷ l) (suc k) d h =
      ap (λ (t : Bool). by z a && t) (climbs_more a (b ∷ l) k d (omega arith))
      ∙ join (by z a) (climbs by a (take (suc k) (b ∷ l))) (by (get_or (b ∷ l) k d) (get_or (b ∷ l) (suc k) d))

pub held_more : (l : List Float) (k : ℕ) (d : Float) → k < length l → All Held (take k l) → Held (get_or l k d) → All Held (take (suc k) l)
held_more l k d h g e = rw (take-suc l k d h) (all_append Held (take k l) (get_or l k d ∷ []) g (e, tt))

-- the test of the first k + 1, of the next, and so of both
pub further : (by : Float → Float → Bool) (l : List Float) (k : ℕ) (so next : Bool) → suc k < length l → so ≡ climbs by zero_f (take (suc k) l)
    → All Held (take (suc k) l)
    → next ≡ by (get_or l k nan) (get_or l (k + 1) nan) → Held (get_or l (k + 1) nan)
    → ((so && next) ≡ climbs by zero_f (take (suc (k + 1)) l)) × All Held (take (suc (k + 1)) l)
further by l k so next h e a f g =
    let one : k + 1 ≡ suc k = omega arith in
    let w = rw one at f in
    let v = rw one at g in
    rw one (rw (e, w) (sym (climbs_more by zero_f l k nan h)), held_more l (suc k) nan h a v)

climbs_rises : (z : Float) (l : List Float) → NotNegative z → Held z → All Held l → climbs le z l ≡ true → Rising (key binary32 z) l
unfolding climbs
climbs_rises z [] n h g c = tt
climbs_rises z (a ∷ l) n h g c =
    let b = both_true (le z a) (climbs le a l) c in
    let u = at_most binary32 z a n h g.0 b.0 in
    (u.0, g.0, u.1, climbs_rises a l u.0 g.0 g.1 b.1)

pub zero_held : Held zero_f
unfolding of_bits fits
zero_held = tt

pub zero_key : key binary32 zero_f ≡ 0
unfolding of_bits
zero_key = refl

pub zero_not_negative : NotNegative zero_f
unfolding of_bits
zero_not_negative = tt

pub rises : (l : List Float) → All Held l → climbs le zero_f l ≡ true → Rising 0 l
rises l g c = subst (λ (n : ℕ). Rising n l) zero_key (climbs_rises zero_f l zero_not_negative zero_held g c)

-- a power that is at least 0
pub not_negative : (p : Float) → Held p → le zero_f p ≡ true → NotNegative p
not_negative p h e = (at_most binary32 zero_f p zero_not_negative zero_held h e).0

-- ---- `old` goes

-- each power that is not below it moves down by one
unfoldable closed : Float → List Float → List Float
closed old [] = []
closed old (a ∷ []) = []
closed old (a ∷ b ∷ l) = moved old a b ∷ closed old (b ∷ l)

-- the first is not below it
all_move : (old : Float) (n : ℕ) (a : Float) (l : List Float) → Held old → Rising n (a ∷ l) → lt a old ≡ false → closed old (a ∷ l) ≡ l
unfolding closed
all_move old n a [] h r e = refl
all_move old n a (b ∷ l) h r e =
    let s = r.3 in
    rw e (ap (λ (t : List Float). b ∷ t) (all_move old (key binary32 a) b l h s (higher binary32 a r.0 r.1 b old s.0 s.1 h s.2 e)))

closed_is : (old : Float) (n m : ℕ) (l : List Float) → Held old → Rising n l → length l ≡ suc m → closed old l ≡ take m (remove lt old l)
unfolding remove closed
closed_is old n m [] h r e = absurd (omega arith)
closed_is old n zero (a ∷ []) h r e = refl
closed_is old n (suc m) (a ∷ []) h r e = absurd (omega arith)
closed_is old n zero (a ∷ b ∷ l) h r e = absurd (omega arith)
closed_is old n (suc m) (a ∷ b ∷ l) h r e = go (lt a old) (closed_is old (key binary32 a) m (b ∷ l) h r.3 (omega arith)) refl
  where
    go : (t : Bool) → closed old (b ∷ l) ≡ take m (remove lt old (b ∷ l)) → lt a old ≡ t
        → cond t a b ∷ closed old (b ∷ l) ≡ take (suc m) (cond t (a ∷ remove lt old (b ∷ l)) (b ∷ l))
    go true i f = ap (λ (t : List Float). a ∷ t) i
    go false i f =
        let s = r.3 in
        let g = higher binary32 a r.0 r.1 b old s.0 s.1 h s.2 f in
        ap (λ (t : List Float). b ∷ t) (all_move old (key binary32 a) b l h s g ∙ sym (take_all m l (omega arith)))

closed_rising : (old : Float) (n : ℕ) (l : List Float) → Held old → Rising n l → Rising n (closed old l)
unfolding closed
closed_rising old n [] h r = tt
closed_rising old n (a ∷ []) h r = tt
closed_rising old n (a ∷ b ∷ l) h r = go (lt a old) (closed_rising old (key binary32 a) (b ∷ l) h r.3) refl
  where
    go : (t : Bool) → Rising (key binary32 a) (closed old (b ∷ l)) → lt a old ≡ t → Rising n (cond t a b ∷ closed old (b ∷ l))
    go true i f = (r.0, r.1, r.2, i)
    go false i f =
        let s = r.3 in
        let g = higher binary32 a r.0 r.1 b old s.0 s.1 h s.2 f in
        let u = r.2 in
        let v = s.2 in
        (s.0, s.1, omega arith, subst (λ (t : List Float). Rising (key binary32 b) t) (sym (all_move old (key binary32 a) b l h s g)) s.3)

-- ---- p comes

-- the powers behind c
unfoldable spread : Float → Float → List Float → List Float
spread p c [] = most c p ∷ []
spread p c (a ∷ l) = least a (most c p) ∷ spread p a l

-- c is not below p
spread_above : (p : Float) (n : ℕ) (c : Float) (l : List Float) → Held p → Rising n (c ∷ l) → lt c p ≡ false → spread p c l ≡ c ∷ l
unfolding spread
spread_above p n c [] h r e = rw e
spread_above p n c (a ∷ l) h r e =
    let s = r.3 in
    let g = higher binary32 c r.0 r.1 a p s.0 s.1 h s.2 e in
    rw (e, stays binary32 a s.0 s.1 c r.1 s.2) (ap (λ (t : List Float). c ∷ t) (spread_above p (key binary32 c) a l h s g))

-- c is below p
spread_below : (p : Float) (n : ℕ) (c : Float) (l : List Float) → Held p → Rising n (c ∷ l) → lt c p ≡ true → spread p c l ≡ insert lt p l
unfolding insert spread
spread_below p n c [] h r e = rw e
spread_below p n c (a ∷ l) h r e = rw e (go (lt a p) (spread_below p (key binary32 c) a l h r.3) refl)
  where
    go : (t : Bool) → (lt a p ≡ true → spread p a l ≡ insert lt p l) → lt a p ≡ t → cond t a p ∷ spread p a l ≡ cond t (a ∷ insert lt p l) (p ∷ a ∷ l)
    go true i f = ap (λ (t : List Float). a ∷ t) (i f)
    go false i f = ap (λ (t : List Float). p ∷ t) (spread_above p (key binary32 c) a l h r.3 f)

spread_is : (p : Float) (n : ℕ) (c : Float) (l : List Float) → Held p → Rising n (c ∷ l) → least c p ∷ spread p c l ≡ insert lt p (c ∷ l)
unfolding insert
spread_is p n c l h r = go (lt c p) refl
  where
    go : (t : Bool) → lt c p ≡ t → cond t c p ∷ spread p c l ≡ cond t (c ∷ insert lt p l) (p ∷ c ∷ l)
    go true f = ap (λ (t : List Float). c ∷ t) (spread_below p n c l h r f)
    go false f = ap (λ (t : List Float). p ∷ t) (spread_above p n c l h r f)

insert_rising : (p : Float) (n : ℕ) (l : List Float) → NotNegative p → Held p → n ≤ key binary32 p → Rising n l → Rising n (insert lt p l)
unfolding insert
insert_rising p n [] q h k r = (q, h, k, tt)
insert_rising p n (c ∷ l) q h k r = go (lt c p) (λ u. insert_rising p (key binary32 c) l q h u r.3) refl
  where
    go : (t : Bool) → (key binary32 c ≤ key binary32 p → Rising (key binary32 c) (insert lt p l)) → lt c p ≡ t
        → Rising n (cond t (c ∷ insert lt p l) (p ∷ c ∷ l))
    go true i f = let u = (below binary32 c r.0 r.1 p h f).1 in (r.0, r.1, r.2, i (omega arith))
    go false i f = (q, h, k, (r.0, r.1, not_below binary32 c r.0 r.1 p q h f, r.3))

-- ---- both

blended_from_lem : (old p a b : Float) (l : List Float) → blended_from old p a b l ≡ spread p (moved old a b) (closed old (b ∷ l))
unfolding blended_from closed spread
blended_from_lem old p a b [] = refl
blended_from_lem old p a b (c ∷ l) = ap (λ (t : List Float). least (moved old b c) (most (moved old a b) p) ∷ t) (blended_from_lem old p b c l)

module _ (old p : Float) (h : Held old) (g : Held p) (m : ℕ) (l : List Float) (r : Rising 0 l) (e : length l ≡ suc (suc m)) where
  pub blended_is : blended old p l ≡ insert lt p (take (suc m) (remove lt old l))
  unfolding blended closed
  blended_is = go l r e
    where
      go : (l : List Float) → Rising 0 l → length l ≡ suc (suc m) → blended old p l ≡ insert lt p (take (suc m) (remove lt old l))
      go [] r e = absurd (omega arith)
      go (a ∷ []) r e = absurd (omega arith)
      go (a ∷ b ∷ l) r e =
          ap (λ (t : List Float). least (moved old a b) p ∷ t) (blended_from_lem old p a b l)
          ∙ spread_is p 0 (moved old a b) (closed old (b ∷ l)) g (closed_rising old 0 (a ∷ b ∷ l) h r)
          ∙ ap (insert lt p) (closed_is old 0 (suc m) (a ∷ b ∷ l) h r e)

  pub replaced_rising : NotNegative p → Rising 0 (insert lt p (take (suc m) (remove lt old l)))
  replaced_rising q =
      insert_rising p 0 (take (suc m) (remove lt old l)) q g (omega arith)
      (subst (Rising 0) (closed_is old 0 (suc m) l h r e) (closed_rising old 0 l h r))

-- ---- by places

module _ (old p : Float) where
  blended_from_at : (a b : Float) (l : List Float) (k : ℕ) (d : Float) → k < length l
      → get_or (blended_from old p a b l) k d ≡ least (moved old (get_or (b ∷ l) k d) (get_or l k d)) (most (moved old (get_or (a ∷ b ∷ l) k d) (get_or (b ∷ l) k d)) p)
  unfolding blended_from
  blended_from_at a b [] k d h = absurd (omega arith)
  blended_from_at a b (c ∷ l) zero d h = refl
  blended_from_at a b (c ∷ l) (suc k) d h = blended_from_at b c l k d (omega arith)

  blended_from_last : (a b : Float) (l : List Float) (d : Float)
      → get_or (blended_from old p a b l) (length l) d ≡ most (moved old (get_or (a ∷ b ∷ l) (length l) d) (get_or (b ∷ l) (length l) d)) p
  unfolding blended_from
  blended_from_last a b [] d = refl
  blended_from_last a b (c ∷ l) d = blended_from_last b c l d

  blended_from_length : (a b : Float) (l : List Float) → length (blended_from old p a b l) ≡ suc (length l)
  unfolding blended_from
  blended_from_length a b [] = refl
  blended_from_length a b (c ∷ l) = ap suc (blended_from_length b c l)

  pub blended_length : (l : List Float) → length (blended old p l) ≡ length l
  unfolding blended
  blended_length [] = refl
  blended_length (a ∷ []) = refl
  blended_length (a ∷ b ∷ l) = ap suc (blended_from_length a b l)

  pub blended_first : (l : List Float) (d : Float) → 2 ≤ length l → get_or (blended old p l) 0 d ≡ least (moved old (get_or l 0 d) (get_or l 1 d)) p
  unfolding blended
  blended_first [] d h = absurd (omega arith)
  blended_first (a ∷ []) d h = absurd (omega arith)
  blended_first (a ∷ b ∷ l) d h = refl

  pub blended_at : (l : List Float) (k : ℕ) (d : Float) → suc (suc k) < length l
      → get_or (blended old p l) (suc k) d ≡ least (moved old (get_or l (suc k) d) (get_or l (suc (suc k)) d)) (most (moved old (get_or l k d) (get_or l (suc k) d)) p)
  unfolding blended
  blended_at [] k d h = absurd (omega arith)
  blended_at (a ∷ []) k d h = absurd (omega arith)
  blended_at (a ∷ b ∷ l) k d h = blended_from_at a b l k d (omega arith)

  pub blended_last : (l : List Float) (k : ℕ) (d : Float) → length l ≡ suc (suc k)
      → get_or (blended old p l) (suc k) d ≡ most (moved old (get_or l k d) (get_or l (suc k) d)) p
  unfolding blended
  blended_last [] k d h = absurd (omega arith)
  blended_last (a ∷ []) k d h = absurd (omega arith)
  blended_last (a ∷ b ∷ l) k d h =
      let e : length l ≡ k = omega arith in
      subst (λ (k : ℕ). get_or (blended_from old p a b l) k d ≡ most (moved old (get_or (a ∷ b ∷ l) k d) (get_or (b ∷ l) k d)) p) e (blended_from_last a b l d)

-- ---- a list filled from the front

pub filled : (l m : List Float) (k : ℕ) (v d : Float) → k < length l → k < length m → take k l ≡ take k m → v ≡ get_or m k d
    → take (suc k) (set l k v) ≡ take (suc k) m
filled l m k v d h g e f = rw (take-suc-set l k v h, take-suc m k d g, e, f)
