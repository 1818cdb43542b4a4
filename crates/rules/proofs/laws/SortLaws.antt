-- Laws of sorting: where `lt` is an order by a key, one more element, or one more and the oldest gone, is an insertion and a removal; and the sort is an
-- ascending arrangement of its list. The powers of samples with no NaN part have such an order. Assumes nothing.
use Rattle.std.specs.Prelude.{◌≡◌, Bool, cond, ltb, get_or, take, drop}
use Rattle.std.proofs.Math.Path.{refl, ap}
use Rattle.std.proofs.Common.{sym, ◌∙◌, ltb-true, ltb-false, lt-ltb, le-ltb}
use Rattle.std.proofs.Math.Bool.{true, false}
use mathlib.Core.List.Permᴰ
use mathlib.Core.List.{List, [], ◌∷◌, ◌++◌, map, Permᴰ}
use Prim.Native.Nat.{ℕ, zero, suc, ◌≤◌, ◌<◌}
use native.Mathlib.Omega.{arith}
use Rattle.std.proofs.Math.ListN.{length}
use Rattle.std.specs.Float.{Format, binary32}
use Rattle.std.specs.Float.Ieee.{mul, lt}
use Rattle.std.specs.Float.Ieee.Fits.{add-fits}
use Rattle.ieee.specs.Plain.{Plain, key}
use Rattle.ieee.proofs.laws.Order.{lt_key, same_key, square_clear, add_clear}
use Rattle.complex.specs.Complex.{power, sample_of, NoNan}
use Rattle.rules.specs.Sort.{insert, remove, sort}
use Rattle.rules.specs.Impulse.{power_of}
use Rattle.rules.specs.Lists.{All}

-- ---- all elements of a list

module _ {A : Type 0} (P : A → Type 0) where
  pub all_take : (n : ℕ) (l : List A) → All P l → All P (take n l)
  all_take zero l g = tt
  all_take (suc n) [] g = tt
  all_take (suc n) (x ∷ l) g = (g.0, all_take n l g.1)

  pub all_drop : (n : ℕ) (l : List A) → All P l → All P (drop n l)
  all_drop zero l g = g
  all_drop (suc n) [] g = tt
  all_drop (suc n) (x ∷ l) g = all_drop n l g.1

  pub all_append : (l m : List A) → All P l → All P m → All P (l ++ m)
  all_append [] m a b = b
  all_append (x ∷ l) m a b = (a.0, all_append l m a.1 b)

  pub all_get_d : (l : List A) (k : ℕ) (d : A) → All P l → k < length l → P (get_or l k d)
  all_get_d [] k d g h = absurd (omega arith)
  all_get_d (x ∷ l) zero d g h = g.0
  all_get_d (x ∷ l) (suc k) d g h = all_get_d l k d g.1 (omega arith)

pub all_as : {A : Type 0} (P Q : A → Type 0) → ((x : A) → P x → Q x) → (l : List A) → All P l → All Q l
all_as P Q f [] g = tt
all_as P Q f (x ∷ l) g = (f x g.0, all_as P Q f l g.1)

pub all_map : {A B : Type 0} (P : B → Type 0) (f : A → B) (l : List A) → All (λ x. P (f x)) l → All P (map f l)
all_map P f [] g = tt
all_map P f (x ∷ l) g = (g.0, all_map P f l g.1)

pub map_snoc : {A B : Type 0} (f : A → B) (l : List A) (x : A) → map f (l ++ (x ∷ [])) ≡ map f l ++ (f x ∷ [])
map_snoc f [] x = refl
map_snoc {B = B} f (y ∷ l) x = ap (λ (t : List B). f y ∷ t) (map_snoc f l x)

-- ---- lengths

module _ {A : Type 0} (lt : A → A → Bool) where
  pub insert_length : (a : A) (l : List A) → length (insert lt a l) ≡ suc (length l)
  unfolding insert
  insert_length a [] = refl
  insert_length a (c ∷ l) = go (lt c a) (insert_length a l)
    where
      go : (b : Bool) → length (insert lt a l) ≡ suc (length l) → length (cond b (c ∷ insert lt a l) (a ∷ c ∷ l)) ≡ suc (suc (length l))
      go true r = ap suc r
      go false r = refl

  pub remove_length : (a : A) (l : List A) → length l ≤ suc (length (remove lt a l))
  unfolding remove
  remove_length a [] = omega arith
  remove_length a (c ∷ l) = go (lt c a) (remove_length a l)
    where
      go : (b : Bool) → length l ≤ suc (length (remove lt a l)) → suc (length l) ≤ suc (length (cond b (c ∷ remove lt a l) l))
      go true r = omega arith
      go false r = omega arith

  pub sort_length : (l : List A) → length (sort lt l) ≡ length l
  unfolding sort
  sort_length [] = refl
  sort_length (a ∷ l) = insert_length a (sort lt l) ∙ ap suc (sort_length l)

-- ---- an order by a key

-- on what is good, `lt` is the order of numbers
pub record Ordered {A : Type 0} (lt : A → A → Bool) (good : A → Type 0) : Type 0 where
  pub key : A → ℕ
  pub by_key : (a b : A) → good a → good b → lt a b ≡ ltb (key a) (key b)
  pub same_key : (a b : A) → good a → good b → key a ≡ key b → a ≡ b

module _ {A : Type 0} {lt : A → A → Bool} {good : A → Type 0} (o : Ordered lt good) where
  pub below : (a b : A) → good a → good b → lt a b ≡ true → o.key a < o.key b
  below a b p q e = ltb-true (o.key a) (o.key b) (sym (o.by_key a b p q) ∙ e)

  pub not_below : (a b : A) → good a → good b → lt a b ≡ false → o.key b ≤ o.key a
  not_below a b p q e = ltb-false (o.key a) (o.key b) (sym (o.by_key a b p q) ∙ e)

  pub is_below : (a b : A) → good a → good b → o.key a < o.key b → lt a b ≡ true
  is_below a b p q h = o.by_key a b p q ∙ lt-ltb (o.key a) (o.key b) h

  pub is_not_below : (a b : A) → good a → good b → o.key b ≤ o.key a → lt a b ≡ false
  is_not_below a b p q h = o.by_key a b p q ∙ le-ltb (o.key a) (o.key b) h

  -- two in front of any list
  two : (a b : A) (l : List A) → good a → good b → cond (lt b a) (b ∷ a ∷ l) (a ∷ b ∷ l) ≡ cond (lt a b) (a ∷ b ∷ l) (b ∷ a ∷ l)
  two a b l p q = go (lt b a) (lt a b) refl refl
    where
      go : (x y : Bool) → lt b a ≡ x → lt a b ≡ y → cond x (b ∷ a ∷ l) (a ∷ b ∷ l) ≡ cond y (a ∷ b ∷ l) (b ∷ a ∷ l)
      go true true e f = let u = below b a q p e in let v = below a b p q f in absurd (omega arith)
      go true false e f = refl
      go false true e f = refl
      go false false e f =
          let u = not_below b a q p e in
          let v = not_below a b p q f in
          let s = o.same_key a b p q (omega arith) in
          λ i. s i ∷ sym s i ∷ l

  pub insert_comm : (a b : A) (l : List A) → good a → good b → All good l → insert lt a (insert lt b l) ≡ insert lt b (insert lt a l)
  unfolding insert
  insert_comm a b [] p q g = two a b [] p q
  insert_comm a b (c ∷ l) p q g = go (lt c a) (lt c b) refl refl (insert_comm a b l p q g.1)
    where
      go : (x y : Bool) → lt c a ≡ x → lt c b ≡ y → insert lt a (insert lt b l) ≡ insert lt b (insert lt a l)
          → insert lt a (cond y (c ∷ insert lt b l) (b ∷ c ∷ l)) ≡ insert lt b (cond x (c ∷ insert lt a l) (a ∷ c ∷ l))
      go true true e f r = rw (e, f) (ap (λ (t : List A). c ∷ t) r)
      go true false e f r =
          let u = below c a g.0 p e in
          let v = not_below c b g.0 q f in
          rw (is_below b a q p (omega arith), e, f)
      go false true e f r =
          let u = not_below c a g.0 p e in
          let v = below c b g.0 q f in
          rw (is_below a b p q (omega arith), e, f)
      go false false e f r = rw (e, f) (two a b (c ∷ l) p q)

  pub remove_insert : (a : A) (l : List A) → good a → remove lt a (insert lt a l) ≡ l
  unfolding insert remove
  remove_insert a [] p = rw (is_not_below a a p p (omega arith))
  remove_insert a (c ∷ l) p = go (lt c a) refl (remove_insert a l p)
    where
      go : (x : Bool) → lt c a ≡ x → remove lt a (insert lt a l) ≡ l → remove lt a (cond x (c ∷ insert lt a l) (a ∷ c ∷ l)) ≡ c ∷ l
      go true e r = rw e (ap (λ (t : List A). c ∷ t) r)
      go false e r = rw (is_not_below a a p p (omega arith))

  insert_good : (a : A) (l : List A) → good a → All good l → All good (insert lt a l)
  unfolding insert
  insert_good a [] p g = (p, tt)
  insert_good a (c ∷ l) p g = go (lt c a) (insert_good a l p g.1)
    where
      go : (x : Bool) → All good (insert lt a l) → All good (cond x (c ∷ insert lt a l) (a ∷ c ∷ l))
      go true r = (g.0, r)
      go false r = (p, g)

  pub sort_good : (l : List A) → All good l → All good (sort lt l)
  unfolding sort
  sort_good [] g = tt
  sort_good (a ∷ l) g = insert_good a (sort lt l) g.0 (sort_good l g.1)

  -- one more at the end of the list
  pub sort_snoc : (l : List A) (p : A) → All good l → good p → sort lt (l ++ (p ∷ [])) ≡ insert lt p (sort lt l)
  unfolding sort
  sort_snoc [] p g q = refl
  sort_snoc (a ∷ l) p g q =
      ap (insert lt a) (sort_snoc l p g.1 q) ∙ insert_comm a p (sort lt l) g.0 q (sort_good l g.1)

-- ---- what the sort is

module _ {A : Type 0} (lt : A → A → Bool) where
  -- none is below one that stands before it
  abbrev pub Ascends : List A → Type 0
  Ascends [] = Unit {0}
  Ascends (a ∷ l) = All (λ b. lt b a ≡ false) l × Ascends l

  insert_perm : (a : A) (l : List A) → Permᴰ (insert lt a l) (a ∷ l)
  unfolding insert
  insert_perm a [] = Permᴰ.refl (a ∷ [])
  insert_perm a (c ∷ l) = go (lt c a) (insert_perm a l)
    where
      go : (b : Bool) → Permᴰ (insert lt a l) (a ∷ l) → Permᴰ (cond b (c ∷ insert lt a l) (a ∷ c ∷ l)) (a ∷ c ∷ l)
      go true r = Permᴰ.trans (Permᴰ.cons refl r) (Permᴰ.swap refl refl)
      go false r = Permᴰ.refl (a ∷ c ∷ l)

  pub sort_perm : (l : List A) → Permᴰ (sort lt l) l
  unfolding sort
  sort_perm [] = Permᴰ.nil
  sort_perm (a ∷ l) = Permᴰ.trans (insert_perm a (sort lt l)) (Permᴰ.cons refl (sort_perm l))

module _ {A : Type 0} {lt : A → A → Bool} {good : A → Type 0} (o : Ordered lt good) where
  -- what is not below c is not below a, where c is not
  lower : (a c : A) (l : List A) → good a → good c → lt c a ≡ false → All good l → All (λ b. lt b c ≡ false) l → All (λ b. lt b a ≡ false) l
  lower a c [] p q e g h = tt
  lower a c (b ∷ l) p q e g h =
      let u = not_below o c a q p e in
      let v = not_below o b c g.0 q h.0 in
      (is_not_below o b a g.0 p (omega arith), lower a c l p q e g.1 h.1)

  above : (a c : A) (l : List A) → lt a c ≡ false → All (λ b. lt b c ≡ false) l → All (λ b. lt b c ≡ false) (insert lt a l)
  unfolding insert
  above a c [] e h = (e, tt)
  above a c (b ∷ l) e h = go (lt b a) (above a c l e h.1)
    where
      go : (t : Bool) → All (λ x. lt x c ≡ false) (insert lt a l) → All (λ x. lt x c ≡ false) (cond t (b ∷ insert lt a l) (a ∷ b ∷ l))
      go true r = (h.0, r)
      go false r = (e, h)

  insert_ascends : (a : A) (l : List A) → good a → All good l → Ascends lt l → Ascends lt (insert lt a l)
  unfolding insert
  insert_ascends a [] p g h = (tt, tt)
  insert_ascends a (c ∷ l) p g h = go (lt c a) refl (insert_ascends a l p g.1 h.1)
    where
      go : (t : Bool) → lt c a ≡ t → Ascends lt (insert lt a l) → Ascends lt (cond t (c ∷ insert lt a l) (a ∷ c ∷ l))
      go true e r = let u = below o c a g.0 p e in (above a c l (is_not_below o a c p g.0 (omega arith)) h.0, r)
      go false e r = ((e, lower a c l p g.0 e g.1 h.0), h)

  pub sort_ascends : (l : List A) → All good l → Ascends lt (sort lt l)
  unfolding sort
  sort_ascends [] g = tt
  sort_ascends (a ∷ l) g = insert_ascends a (sort lt l) g.0 (sort_good o l g.1) (sort_ascends l g.1)

-- ---- floats

-- those with no NaN and no sign bit
pub plain_order : (f : Format) → Ordered lt (Plain f)
plain_order f = record { key = key f; by_key = λ a b x y. lt_key f a b x y; same_key = λ a b x y. same_key f a b x y }

-- the samples whose power is one: no bound is needed
pub power_plain : (w : ℕ) → NoNan (sample_of w) → Plain binary32 (power_of w)
unfolding power_of power
power_plain w n =
    let z = sample_of w in (
      add_clear binary32 (mul binary32 z.re z.re) (mul binary32 z.im z.im) (square_clear binary32 z.re n.re)
          (square_clear binary32 z.im n.im),
      add-fits binary32 (mul binary32 z.re z.re) (mul binary32 z.im z.im),
    )
