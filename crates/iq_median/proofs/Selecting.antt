-- A search for a sorted place: the loops that count and move what passes a test, the sort of a list in two parts, and a turn of the search. Assumes nothing.
use mathlib.Core.Path.{◌≡◌, refl, sym, ap, ◌∙◌, subst}
use mathlib.Core.Bool.{Bool, true, false, cond, not, ◌&&◌}
use mathlib.Core.List.{List, [], ◌∷◌, ◌++◌, append-nil}
use Prim.Native.Nat.{ℕ, zero, suc, ◌+◌, ◌-◌, ◌/◌, ◌≤◌, ◌<◌}
use native.Mathlib.Nat.{add-zero}
use native.Mathlib.Omega.{arith}
use native.Mathlib.Numerals.{add-one}
use lib.Dec.{T, ltb}
use borrow.Author.Tests.{ltb-true, ltb-false}
use lib.ListN.{length, get_or, take, drop, set, length-set, length-append, length-drop, drop_of_length-le, get_or-append}
use lib.Seq.{take_all, take-append-le, drop-cons, append_snoc, take-suc-set, take-set-le, drop-set-lt, length-take-le}
use lib.Seq.{get_or-append-add}
use lib.Ieee.{Float, nan, binary64, lt, add, mul, fits}
use mir.Val.{bool_byte}
use Rattle.ieee.specs.Plain.{sign_clear, Plain}
use Rattle.ieee.proofs.laws.Order.{plain_irrefl}
use Rattle.rules.specs.Constants.{zero_f, one_half}
use Rattle.rules.specs.Monitor.{floor_of}
use Rattle.rules.specs.Sort.{insert, sort}
use borrow.Author.Tests.{not-true}
use Rattle.rules.proofs.laws.SortLaws.{Ordered, below, not_below, is_below, is_not_below, sort_length, sort_good, all_as, all_get_d, plain_order}
use Rattle.rules.specs.Lists.{All}
use Rattle.iq_median.specs.declared.Search.{Search}
use Rattle.rules.proofs.laws.ListLaws.{read_any, bit}
use Rattle.rules.specs.Lists.{all_of}
use Rattle.iq_median.specs.Select.{passing, below_of, above_of, sorted_in, Window, Turning, Narrowed, Selected, lower_of, least_above}

pub one_more : {A : Type 0} (l : List A) (k : ℕ) (d : A) → k < length l → drop k l ≡ get_or l k d ∷ drop (k + 1) l
one_more {A = A} l k d h = drop-cons l k d h ∙ ap (λ (i : ℕ). get_or l k d ∷ drop i l) (sym (add-one k))

-- ---- what passes a test

module _ {A : Type 0} (t : A → Bool) where
  passing_step : (x : A) (l : List A) → passing t (x ∷ l) ≡ cond (t x) (x ∷ passing t l) (passing t l)
  unfolding passing
  passing_step x l = refl

  passing_none : passing t [] ≡ []
  unfolding passing
  passing_none = refl

  passing_all : (P : A → Type 0) (l : List A) → All P l → All (λ x. P x × (t x ≡ true)) (passing t l)
  unfolding passing
  passing_all P [] g = tt
  passing_all P (x ∷ l) g = go (t x) refl (passing_all P l g.1)
    where
      go : (b : Bool) → t x ≡ b → All (λ y. P y × (t y ≡ true)) (passing t l) → All (λ y. P y × (t y ≡ true)) (cond b (x ∷ passing t l) (passing t l))
      go true e r = ((g.0, e), r)
      go false e r = r

  pub passing_length : (l : List A) → length (passing t l) ≤ length l
  unfolding passing
  passing_length [] = omega arith
  passing_length (x ∷ l) = go (t x) (passing_length l)
    where
      go : (b : Bool) → length (passing t l) ≤ length l → length (cond b (x ∷ passing t l) (passing t l)) ≤ suc (length l)
      go true r = omega arith
      go false r = omega arith

  at_turn : (l : List A) (k : ℕ) (d : A) → k < length l
      → passing t (drop k l) ≡ cond (t (get_or l k d)) (get_or l k d ∷ passing t (drop (k + 1) l)) (passing t (drop (k + 1) l))
  at_turn l k d h = ap (passing t) (one_more l k d h) ∙ passing_step (get_or l k d) (drop (k + 1) l)

  -- a loop that counts them
  pub counted_next : (l : List A) (k n : ℕ) (d : A) → k < length l → n + length (passing t (drop k l)) ≡ length (passing t l)
      → n + bool_byte (t (get_or l k d)) + length (passing t (drop (k + 1) l)) ≡ length (passing t l)
  counted_next l k n d h e = go (t (get_or l k d)) (ap length (at_turn l k d h))
    where
      go : (b : Bool) → length (passing t (drop k l)) ≡ length (cond b (get_or l k d ∷ passing t (drop (k + 1) l)) (passing t (drop (k + 1) l)))
          → n + bool_byte b + length (passing t (drop (k + 1) l)) ≡ length (passing t l)
      go true f = omega arith
      go false f = omega arith

  pub counted_all : (l : List A) (k n : ℕ) → length l ≤ k → n + length (passing t (drop k l)) ≡ length (passing t l) → n ≡ length (passing t l)
  counted_all l k n h e =
      let z : length (passing t (drop k l)) ≡ 0 = ap (λ (m : List A). length (passing t m)) (drop_of_length-le l {i = k} h) ∙ ap length passing_none in
      omega arith

  -- a loop that moves them to the front: j are there
  abbrev pub Kept : List A → List A → ℕ → ℕ → Type 0
  Kept l₀ l k j = (k ≤ length l₀) × (j ≤ k) × (length l ≡ length l₀) × (take j l ++ passing t (drop k l) ≡ passing t l₀)

  pub kept_next : (d : A) (l₀ l : List A) (k j : ℕ) → k < length l → Kept l₀ l k j → Kept l₀ (set l j (get_or l k d)) (k + 1) (j + bool_byte (t (get_or l k d)))
  kept_next d l₀ l k j h e = (
    omega arith,
    (let b = bit (t x) in omega arith),
    length-set l j x ∙ e.2,
    ap (λ (m : List A). take (j + bool_byte (t x)) (set l j x) ++ passing t m) back
        ∙ go (t x) (ap (λ (m : List A). take j l ++ m) (sym (at_turn l k d h)) ∙ e.3),
  )
    where
      x : A
      x = get_or l k d

      rest : List A
      rest = drop (k + 1) l

      back : drop (k + 1) (set l j x) ≡ rest
      back = drop-set-lt (k + 1) l j x (omega arith)

      go : (b : Bool) → take j l ++ cond b (x ∷ passing t rest) (passing t rest) ≡ passing t l₀
          → take (j + bool_byte b) (set l j x) ++ passing t rest ≡ passing t l₀
      go true f = ap (λ (i : ℕ). take i (set l j x) ++ passing t rest) (add-one j) ∙ ap (λ (m : List A). m ++ passing t rest) (take-suc-set l j x (omega arith))
          ∙ append_snoc (take j l) x (passing t rest) ∙ f
      go false f = ap (λ (i : ℕ). take i (set l j x) ++ passing t rest) (add-zero j)
          ∙ ap (λ (m : List A). m ++ passing t rest) (take-set-le j l j x (omega arith)) ∙ f

  pub kept_all : (l₀ l : List A) (k j : ℕ) → length l ≤ k → Kept l₀ l k j → (j ≤ length l₀) × (take j l ≡ passing t l₀)
  kept_all l₀ l k j h e = (
    omega arith,
    sym (append-nil (take j l)) ∙ ap (λ (m : List A). take j l ++ m) (sym (ap (passing t) (drop_of_length-le l {i = k} h) ∙ passing_none))
        ∙ e.3,
  )

-- ---- the sort of a list in two parts

module _ {A : Type 0} (lt : A → A → Bool) where
  insert_front : (a : A) (s t : List A) → All (λ c. lt c a ≡ false) t → insert lt a (s ++ t) ≡ insert lt a s ++ t
  unfolding insert
  insert_front a [] [] g = refl
  insert_front a [] (c ∷ t) g = rw g.0
  insert_front a (c ∷ s) t g = go (lt c a) (insert_front a s t g)
    where
      go : (b : Bool) → insert lt a (s ++ t) ≡ insert lt a s ++ t
          → cond b (c ∷ insert lt a (s ++ t)) (a ∷ c ∷ (s ++ t)) ≡ cond b (c ∷ insert lt a s) (a ∷ c ∷ s) ++ t
      go true r = ap (λ (m : List A). c ∷ m) r
      go false r = refl

  insert_past : (a : A) (s t : List A) → All (λ c. lt c a ≡ true) s → insert lt a (s ++ t) ≡ s ++ insert lt a t
  unfolding insert
  insert_past a [] t g = refl
  insert_past a (c ∷ s) t g = rw g.0 (ap (λ (m : List A). c ∷ m) (insert_past a s t g.1))

  insert_all : (P : A → Type 0) (a : A) (l : List A) → P a → All P l → All P (insert lt a l)
  unfolding insert
  insert_all P a [] p g = (p, tt)
  insert_all P a (c ∷ l) p g = go (lt c a) (insert_all P a l p g.1)
    where
      go : (b : Bool) → All P (insert lt a l) → All P (cond b (c ∷ insert lt a l) (a ∷ c ∷ l))
      go true r = (g.0, r)
      go false r = (p, g)

  sort_all : (P : A → Type 0) (l : List A) → All P l → All P (sort lt l)
  unfolding sort
  sort_all P [] g = tt
  sort_all P (a ∷ l) g = insert_all P a (sort lt l) g.0 (sort_all P l g.1)

-- one test is the other's opposite
module _ {A : Type 0} (low high : A → Bool) (other : (x : A) → high x ≡ not (low x)) where
  both_lengths : (l : List A) → length (passing low l) + length (passing high l) ≡ length l
  unfolding passing
  both_lengths [] = refl
  both_lengths (x ∷ l) = go (low x) (high x) (other x) (both_lengths l)
    where
      go : (a b : Bool) → b ≡ not a → length (passing low l) + length (passing high l) ≡ length l
          → length (cond a (x ∷ passing low l) (passing low l)) + length (cond b (x ∷ passing high l) (passing high l)) ≡ suc (length l)
      go true true e r = absurd (subst T e tt)
      go true false e r = omega arith
      go false true e r = omega arith
      go false false e r = absurd (subst T (sym e) tt)

  module _ (lt : A → A → Bool) (good : A → Type 0)
      (apart : (c a : A) → good c → good a → low c ≡ true → high a ≡ true → (lt c a ≡ true) × (lt a c ≡ false)) where
    -- THE SORT IN TWO PARTS: what passes the low test, then the rest
    pub sort_parts : (l : List A) → All good l → sort lt l ≡ sort lt (passing low l) ++ sort lt (passing high l)
    unfolding sort passing
    sort_parts [] g = refl
    sort_parts (a ∷ l) g = ap (insert lt a) (sort_parts l g.1) ∙ go (low a) (high a) (other a) refl refl
      where
        lows : List A
        lows = sort lt (passing low l)

        highs : List A
        highs = sort lt (passing high l)

        go : (x y : Bool) → y ≡ not x → low a ≡ x → high a ≡ y
            → insert lt a (lows ++ highs) ≡ sort lt (cond x (a ∷ passing low l) (passing low l)) ++ sort lt (cond y (a ∷ passing high l) (passing high l))
        go true true e f h = absurd (subst T e tt)
        go true false e f h =
            insert_front lt a lows highs
            (sort_all lt (λ c. lt c a ≡ false) (passing high l)
            (all_as (λ c. good c × (high c ≡ true)) (λ c. lt c a ≡ false) (λ c k. (apart a c g.0 k.0 f k.1).1) (passing high l)
            (passing_all high good l g.1)))
        go false true e f h =
            insert_past lt a lows highs
            (sort_all lt (λ c. lt c a ≡ true) (passing low l)
            (all_as (λ c. good c × (low c ≡ true)) (λ c. lt c a ≡ true) (λ c k. (apart c a k.0 g.0 k.1 h).0) (passing low l)
            (passing_all low good l g.1)))
        go false false e f h = absurd (subst T (sym e) tt)

not_not : (b : Bool) → b ≡ not (not b)
not_not true = refl
not_not false = refl

module _ {A : Type 0} {lt : A → A → Bool} {good : A → Type 0} (o : Ordered lt good) (p : A) (P : good p) (l : List A) (g : All good l) (d : A) where
  lows : List A
  lows = passing (λ x. lt x p) l

  highs : List A
  highs = passing (λ x. lt p x) l

  not_low : A → Bool
  not_low x = not (lt x p)

  not_high : A → Bool
  not_high x = not (lt p x)

  by_lows : sort lt l ≡ sort lt lows ++ sort lt (passing not_low l)
  unfolding lows not_low
  by_lows = sort_parts (λ x. lt x p) not_low (λ x. refl) lt good apart l g
    where
      apart : (c a : A) → good c → good a → lt c p ≡ true → not (lt a p) ≡ true → (lt c a ≡ true) × (lt a c ≡ false)
      apart c a gc ga e f =
          let u = below o c p gc P e in
          let v = not_below o a p ga P (not-true (lt a p) f) in
          (is_below o c a gc ga (omega arith), is_not_below o a c ga gc (omega arith))

  by_highs : sort lt l ≡ sort lt (passing not_high l) ++ sort lt highs
  unfolding highs not_high
  by_highs = sort_parts not_high (λ x. lt p x) (λ x. not_not (lt p x)) lt good apart l g
    where
      apart : (c a : A) → good c → good a → not (lt p c) ≡ true → lt p a ≡ true → (lt c a ≡ true) × (lt a c ≡ false)
      apart c a gc ga e f =
          let u = not_below o p c P gc (not-true (lt p c) e) in
          let v = below o p a P ga f in
          (is_below o c a gc ga (omega arith), is_not_below o a c ga gc (omega arith))

  -- a place among those below p
  pub from_below : (i : ℕ) → i < length (passing (λ x. lt x p) l) → get_or (sort lt (passing (λ x. lt x p) l)) i d ≡ get_or (sort lt l) i d
  unfolding lows
  from_below i h =
      sym (ap (λ (m : List A). get_or m i d) by_lows
      ∙ get_or-append (sort lt lows) (sort lt (passing not_low l)) d i (let e = sort_length lt lows in omega arith))

  not_highs : (passed : ℕ) → passed + length (passing (λ x. lt p x) l) ≡ length l → length (sort lt (passing not_high l)) ≡ passed
  unfolding not_high
  not_highs passed e = sort_length lt (passing not_high l) ∙ (let b = both_lengths not_high (λ x. lt p x) (λ x. not_not (lt p x)) l in omega arith)

  -- a place among those above p
  pub from_above : (passed : ℕ) → passed + length (passing (λ x. lt p x) l) ≡ length l → (i : ℕ)
      → get_or (sort lt (passing (λ x. lt p x) l)) i d ≡ get_or (sort lt l) (passed + i) d
  unfolding highs
  from_above passed e i =
      sym (ap (λ (m : List A). get_or m (passed + i) d) by_highs
      ∙ ap (λ (n : ℕ). get_or (sort lt (passing not_high l) ++ sort lt highs) (n + i) d) (sym (not_highs passed e))
      ∙ get_or-append-add (sort lt (passing not_high l)) (sort lt highs) i d)

  -- a place that is among neither has p
  pub is_equal : (passed k : ℕ) → passed + length (passing (λ x. lt p x) l) ≡ length l → length (passing (λ x. lt x p) l) ≤ k → k < passed
      → get_or (sort lt l) k d ≡ p
  unfolding lows not_low not_high
  is_equal passed k e h q =
      let n = sort_length lt l in
      let x = get_or (sort lt l) k d in
      let gx : good x = all_get_d good (sort lt l) k d (sort_good o l g) (omega arith) in
      let u : lt x p ≡ false =
      subst (λ (y : A). lt y p ≡ false) (sym upper)
      (all_get_d (λ y. lt y p ≡ false) (sort lt (passing not_low l)) (k - length lows) d
      (sort_all lt (λ y. lt y p ≡ false) (passing not_low l)
      (all_as (λ y. good y × (not_low y ≡ true)) (λ y. lt y p ≡ false) (λ y r. not-true (lt y p) r.1) (passing not_low l)
      (passing_all not_low good l g))) room) in
      let v : lt p x ≡ false =
      subst (λ (y : A). lt p y ≡ false) (sym lower)
      (all_get_d (λ y. lt p y ≡ false) (sort lt (passing not_high l)) k d
      (sort_all lt (λ y. lt p y ≡ false) (passing not_high l)
      (all_as (λ y. good y × (not_high y ≡ true)) (λ y. lt p y ≡ false) (λ y r. not-true (lt p y) r.1) (passing not_high l)
      (passing_all not_high good l g))) (let m = not_highs passed e in omega arith)) in
      let a = not_below o x p gx P u in
      let b = not_below o p x P gx v in
      o.same_key x p gx P (omega arith)
    where
      ls : length (sort lt lows) ≡ length (passing (λ x. lt x p) l)
      ls = sort_length lt lows

      upper : get_or (sort lt l) k d ≡ get_or (sort lt (passing not_low l)) (k - length lows) d
      upper =
          ap (λ (m : List A). get_or m k d) by_lows
          ∙ ap (λ (n : ℕ). get_or (sort lt lows ++ sort lt (passing not_low l)) n d)
          (let n = ls in let z : k ≡ length (sort lt lows) + (k - length lows) = omega arith in z)
          ∙ get_or-append-add (sort lt lows) (sort lt (passing not_low l)) (k - length lows) d

      room : k - length lows < length (sort lt (passing not_low l))
      room = let a = sort_length lt (passing not_low l) in let b = both_lengths (λ x. lt x p) not_low (λ x. refl) l in omega arith

      lower : get_or (sort lt l) k d ≡ get_or (sort lt (passing not_high l)) k d
      lower = ap (λ (m : List A). get_or m k d) by_highs
          ∙ get_or-append (sort lt (passing not_high l)) (sort lt highs) d k (let m = not_highs passed e in omega arith)

  -- a place whose element is p: not more than that are below p
  pub own_low : (k : ℕ) → k < length l → p ≡ get_or (sort lt l) k d → length (passing (λ x. lt x p) l) ≤ k
  own_low k h e = go (ltb k (length (passing (λ x. lt x p) l))) refl
    where
      go : (b : Bool) → ltb k (length (passing (λ x. lt x p) l)) ≡ b → length (passing (λ x. lt x p) l) ≤ k
      go true f =
          let i = ltb-true k (length (passing (λ x. lt x p) l)) f in
          let n = sort_length lt (passing (λ x. lt x p) l) in
          let t = all_get_d (λ y. lt y p ≡ true) (sort lt (passing (λ x. lt x p) l)) k d
          (sort_all lt (λ y. lt y p ≡ true) (passing (λ x. lt x p) l)
          (all_as (λ y. good y × (lt y p ≡ true)) (λ y. lt y p ≡ true) (λ y r. r.1) (passing (λ x. lt x p) l)
          (passing_all (λ x. lt x p) good l g))) (omega arith) in
          let u = below o p p P P (subst (λ (y : A). lt y p ≡ true) (from_below k i ∙ sym e) t) in
          absurd (omega arith)
      go false f = ltb-false k (length (passing (λ x. lt x p) l)) f

  -- and it is not among those above p
  pub own_high : (passed k : ℕ) → passed + length (passing (λ x. lt p x) l) ≡ length l → k < length l → p ≡ get_or (sort lt l) k d → k < passed
  own_high passed k q h e = go (ltb k passed) refl
    where
      go : (b : Bool) → ltb k passed ≡ b → k < passed
      go true f = ltb-true k passed f
      go false f =
          let i = ltb-false k passed f in
          let n = sort_length lt (passing (λ x. lt p x) l) in
          let t = all_get_d (λ y. lt p y ≡ true) (sort lt (passing (λ x. lt p x) l)) (k - passed) d
          (sort_all lt (λ y. lt p y ≡ true) (passing (λ x. lt p x) l)
          (all_as (λ y. good y × (lt p y ≡ true)) (λ y. lt p y ≡ true) (λ y r. r.1) (passing (λ x. lt p x) l)
          (passing_all (λ x. lt p x) good l g))) (omega arith) in
          let at : get_or (sort lt l) (passed + (k - passed)) d ≡ p = ap (λ (j : ℕ). get_or (sort lt l) j d) (let z : passed + (k - passed) ≡ k = omega arith in z)
          ∙ sym e in
          let u = below o p p P P (subst (λ (y : A). lt p y ≡ true) (from_above passed q (k - passed) ∙ at) t) in
          absurd (omega arith)

-- ---- the least above p, from the end on

pub least_end : (p : Float) (l : List Float) → nan ≡ least_above p (drop (length l) l)
unfolding least_above
least_end p l = sym (ap (least_above p) (drop_of_length-le l {i = length l} (omega arith)))

least_next : (p : Float) (l : List Float) (k : ℕ) (least : Float) → 0 < k → k ≤ length l → least ≡ least_above p (drop k l)
    → lower_of p (get_or l (k - 1) nan) least ≡ least_above p (drop (k - 1) l)
unfolding least_above
least_next p l k least h q e =
    ap (lower_of p (get_or l (k - 1) nan)) (e ∙ ap (λ (i : ℕ). least_above p (drop i l)) (let z : k ≡ suc (k - 1) = omega arith in z))
    ∙ sym (ap (least_above p) (drop-cons l (k - 1) nan (omega arith)))

-- by the answers to the two tests
pub least_step : (p : Float) (l : List Float) (k : ℕ) (least : Float) (a b : Bool) → 0 < k → k ≤ length l → least ≡ least_above p (drop k l)
    → lt p (get_or l (k - 1) nan) ≡ a → lt least (get_or l (k - 1) nan) ≡ b
    → cond a (cond b least (get_or l (k - 1) nan)) least ≡ least_above p (drop (k - 1) l)
least_step p l k least a b h q e f g =
    let x = get_or l (k - 1) nan in
    sym (ap (λ (t : Bool). cond t (cond (lt least x) least x) least) f ∙ ap (λ (t : Bool). cond a (cond t least x) least) g) ∙ least_next p l k least h q e

first_inserted : (a : Float) (l : List Float) → get_or (insert lt a l) 0 nan ≡ cond (lt (get_or l 0 nan) a) (get_or l 0 nan) a
unfolding insert lt
first_inserted a [] = refl
first_inserted a (c ∷ l) = go (lt c a)
  where
    go : (b : Bool) → get_or (cond b (c ∷ insert lt a l) (a ∷ c ∷ l)) 0 nan ≡ cond b c a
    go true = refl
    go false = refl

pub least_first : (p : Float) (l : List Float) → get_or (sort lt (above_of p l)) 0 nan ≡ least_above p l
unfolding sort least_above passing
least_first p [] = refl
least_first p (x ∷ l) = go (lt p x) (least_first p l)
  where
    go : (b : Bool) → get_or (sort lt (above_of p l)) 0 nan ≡ least_above p l
        → get_or (sort lt (cond b (x ∷ passing (λ y. lt p y) l) (passing (λ y. lt p y) l))) 0 nan
        ≡ cond b (cond (lt (least_above p l) x) (least_above p l) x) (least_above p l)
    go true r = first_inserted x (sort lt (above_of p l)) ∙ ap (λ (y : Float). cond (lt y x) y x) r
    go false r = r

-- ---- a turn of a search

module _ (l m : List Float) (s t : Search) (p : Float) (r : Turning l s p) (turns : t.left + 1 ≡ s.left) (most : t.count ≤ length m) where
  window : List Float
  window = take s.count l

  window_length_lem : length (take s.count l) ≡ s.count
  window_length_lem = length-take-le s.count l r.window.most

  kept : length (take t.count m) ≡ t.count
  kept = length-take-le t.count m most

  pub narrowed_below : take t.count m ≡ below_of p (take s.count l) → s.place < length (below_of p (take s.count l)) → t.place ≡ s.place
      → Narrowed l s m t
  narrowed_below e h q =
      let n = window_length_lem in
      let k = kept in
      let f = ap length e in
      let b = passing_length (λ x. lt x p) (take s.count l) in
      record {
        window = record {
          most = most;
          inside = omega arith;
          plain = subst (All (Plain binary64)) (sym e)
              (all_as (λ x. Plain binary64 x × (lt x p ≡ true)) (Plain binary64) (λ x y. y.0) (below_of p (take s.count l))
              (passing_all (λ x. lt x p) (Plain binary64) (take s.count l) r.window.plain));
        };
        room = omega arith;
        same = λ i j.
            ap (λ (a : List Float). get_or (sort lt a) (t.place + i) nan) e
            ∙ ap (λ (a : ℕ). get_or (sort lt (below_of p (take s.count l))) (a + i) nan) q
            ∙ from_below (plain_order binary64) p r.pivot (take s.count l) r.window.plain nan (s.place + i) (omega arith);
        turns = turns;
      }

  pub narrowed_above : (passed : ℕ) → take t.count m ≡ above_of p (take s.count l) → passed + length (above_of p (take s.count l)) ≡ s.count
      → t.place + passed ≡ s.place → Narrowed l s m t
  narrowed_above passed e h q =
      let n = window_length_lem in
      let k = kept in
      let f = ap length e in
      let w = r.window.inside in
      record {
        window = record {
          most = most;
          inside = omega arith;
          plain = subst (All (Plain binary64)) (sym e)
              (all_as (λ x. Plain binary64 x × (lt p x ≡ true)) (Plain binary64) (λ x y. y.0) (above_of p (take s.count l))
              (passing_all (λ x. lt p x) (Plain binary64) (take s.count l) r.window.plain));
        };
        room = omega arith;
        same = λ i j.
            ap (λ (a : List Float). get_or (sort lt a) (t.place + i) nan) e
            ∙ from_above (plain_order binary64) p r.pivot (take s.count l) r.window.plain nan passed (h ∙ sym n) (t.place + i)
            ∙ ap (λ (a : ℕ). get_or (sort lt (take s.count l)) a nan) (let z : passed + (t.place + i) ≡ s.place + i = omega arith in z);
        turns = turns;
      }

  -- of those equal to p one or two are kept: sorted, they are so many times p
  pub narrowed_equal : (passed : ℕ) → passed + length (above_of p (take s.count l)) ≡ s.count → length (below_of p (take s.count l)) ≤ s.place
      → t.place ≡ 0 → 0 < t.count → s.place + t.count ≤ passed
      → All (Plain binary64) (take t.count m) → ((i : ℕ) → i < t.count → get_or (sort lt (take t.count m)) i nan ≡ p) → Narrowed l s m t
  narrowed_equal passed h low z pos fit plain equal =
      let n = window_length_lem in
      record {
        window = record { most = most; inside = omega arith; plain = plain };
        room = omega arith;
        same = λ i j.
            ap (λ (a : ℕ). get_or (sort lt (take t.count m)) (a + i) nan) z
            ∙ ap (λ (a : ℕ). get_or (sort lt (take t.count m)) a nan) (let y : 0 + i ≡ i = omega arith in y)
            ∙ equal i (omega arith)
            ∙ sym (is_equal (plain_order binary64) p r.pivot (take s.count l) r.window.plain nan passed (s.place + i) (h ∙ sym n) (omega arith)
            (omega arith));
        turns = turns;
      }

two_front : (l : List Float) (p : Float) → 1 < length l → take 2 (set (set l 0 p) 1 p) ≡ p ∷ p ∷ []
two_front [] p h = absurd (omega arith)
two_front (x ∷ []) p h = absurd (omega arith)
two_front (x ∷ y ∷ l) p h = refl

one_front : (l : List Float) (p : Float) → 1 < length l → take 1 (set (set l 0 p) 1 p) ≡ p ∷ []
one_front [] p h = absurd (omega arith)
one_front (x ∷ []) p h = absurd (omega arith)
one_front (x ∷ y ∷ l) p h = refl

two_sorted : (p : Float) → Plain binary64 p → sort lt (p ∷ p ∷ []) ≡ p ∷ p ∷ []
unfolding sort insert
two_sorted p P = ap (λ (b : Bool). cond b (p ∷ p ∷ []) (p ∷ p ∷ [])) (plain_irrefl binary64 p P)

one_sorted : (p : Float) → sort lt (p ∷ []) ≡ p ∷ []
unfolding sort insert
one_sorted p = refl

-- p and p in front
module _ (l : List Float) (s t : Search) (p : Float) (r : Turning l s p) (turns : t.left + 1 ≡ s.left) (passed : ℕ)
    (h : passed + length (above_of p (take s.count l)) ≡ s.count) (low : length (below_of p (take s.count l)) ≤ s.place) (at : t.place ≡ 0) where
  room : 1 < length l
  room = omega (arith, r.many, r.window.most)

  pub equal_two : t.count ≡ 2 → s.place + 1 < passed → Narrowed l s (set (set l 0 p) 1 p) t
  equal_two e q =
      let m = set (set l 0 p) 1 p in
      let n = length-set (set l 0 p) 1 p in
      let k = length-set l 0 p in
      let f : take t.count m ≡ p ∷ p ∷ [] = ap (λ (i : ℕ). take i m) e ∙ two_front l p room in
      narrowed_equal l m s t p r turns (omega (arith, room)) passed h low at (omega arith) (omega arith)
      (subst (All (Plain binary64)) (sym f) (r.pivot, (r.pivot, tt)))
      (λ i j. ap (λ (a : List Float). get_or a i nan) (ap (sort lt) f ∙ two_sorted p r.pivot) ∙ either i (omega arith))
    where
      either : (i : ℕ) → i < 2 → get_or (p ∷ p ∷ []) i nan ≡ p
      either zero j = refl
      either (suc zero) j = refl
      either (suc (suc i)) j = absurd (omega arith)

  pub equal_one : t.count ≡ 1 → s.place < passed → Narrowed l s (set (set l 0 p) 1 p) t
  equal_one e q =
      let m = set (set l 0 p) 1 p in
      let n = length-set (set l 0 p) 1 p in
      let k = length-set l 0 p in
      let f : take t.count m ≡ p ∷ [] = ap (λ (i : ℕ). take i m) e ∙ one_front l p room in
      narrowed_equal l m s t p r turns (omega (arith, room)) passed h low at (omega arith) (omega arith)
      (subst (All (Plain binary64)) (sym f) (r.pivot, tt))
      (λ i j. ap (λ (a : List Float). get_or a i nan) (ap (sort lt) f ∙ one_sorted p) ∙ only i (omega arith))
    where
      only : (i : ℕ) → i < 1 → get_or (p ∷ []) i nan ≡ p
      only zero j = refl
      only (suc i) j = absurd (omega arith)

-- what a part of the words was turned to, in front of the rest
pub in_front : (x y b : List Float) (r n : ℕ) → r ≤ n → length x ≡ n → take r x ≡ b → (r ≤ length (x ++ y)) × (take r (x ++ y) ≡ b)
in_front x y b r n h e f = let a = length-append x y in (omega arith, take-append-le r x y (omega arith) ∙ f)

-- ---- the loop of a search

abbrev pub Going : List Float → ℕ → List Float → Search → Type 0
Going l₀ place l s = Window l s × (length l ≡ length l₀)
    × ((i : ℕ) → s.place + i < s.count → get_or (sorted_in l s) (s.place + i) nan ≡ get_or (sort lt l₀) (place + i) nan)

pub going_first : (l : List Float) (place : ℕ) (s : Search) → s.count ≡ length l → s.place ≡ place → place < length l → All (Plain binary64) l
    → Going l place l s
going_first l place s e f h g =
    let all : take s.count l ≡ l = ap (λ (i : ℕ). take i l) e ∙ take_all (length l) l (omega arith) in (
      record { most = omega arith; inside = omega arith; plain = subst (All (Plain binary64)) (sym all) g },
      refl,
      λ i j. ap (λ (m : List Float). get_or (sort lt m) (s.place + i) nan) all ∙ ap (λ (k : ℕ). get_or (sort lt l) (k + i) nan) f,
    )

pub going_next : (l₀ : List Float) (place : ℕ) (l m : List Float) (s t : Search) → Going l₀ place l s → length m ≡ length l → Narrowed l s m t
    → Going l₀ place m t
going_next l₀ place l m s t g e n =
    (n.window, e ∙ g.1, λ i j. n.same i j ∙ g.2 i (let r = n.room in omega arith))

module _ (l₀ : List Float) (place : ℕ) (l w : List Float) (s : Search) (g : Going l₀ place l s) (e : w ≡ sort lt (take s.count l)) where
  sorted_length : length w ≡ s.count
  sorted_length = ap length e ∙ sort_length lt (take s.count l) ∙ length-take-le s.count l g.0.most

  pub found_length : length (w ++ drop s.count l) ≡ length l₀
  found_length = let a = length-append w (drop s.count l) in let b = sorted_length in let c = length-drop s.count l in let d = g.0.most in
      omega (arith, g.1)

  pub found : Selected l₀ place (w ++ drop s.count l) s
  found =
      let a = length-append w (drop s.count l) in
      let b = sorted_length in
      record {
        most = omega arith;
        inside = g.0.inside;
        same = λ i j. get_or-append w (drop s.count l) nan (s.place + i) (omega arith) ∙ ap (λ (m : List Float). get_or m (s.place + i) nan) e ∙ g.2 i j;
      }

-- ---- the power after one

module _ (l : List Float) (k : ℕ) (p : Float) (above : ℕ) (g : All (Plain binary64) l) (h : k + 1 < length l) (e : p ≡ get_or (sort lt l) k nan)
    (f : above ≡ length (above_of p l)) where
  own : Plain binary64 p
  own = subst (Plain binary64) (sym e)
      (all_get_d (Plain binary64) (sort lt l) k nan (sort_good (plain_order binary64) l g) (let n = sort_length lt l in omega arith))

  passed_rest : length l - above + length (above_of p l) ≡ length l
  passed_rest = let n = passing_length (λ x. lt p x) l in omega arith

  pub next_same : k + 1 < length l - above → p ≡ get_or (sort lt l) (k + 1) nan
  next_same q = let b = own_low (plain_order binary64) p own l g nan k (omega arith) e in
      sym (is_equal (plain_order binary64) p own l g nan (length l - above) (k + 1) passed_rest (omega arith) q)

  pub next_above : length l - above ≤ k + 1 → least_above p l ≡ get_or (sort lt l) (k + 1) nan
  next_above q =
      let b = own_high (plain_order binary64) p own l g nan (length l - above) k passed_rest (omega arith) e in
      sym (least_first p l)
      ∙ from_above (plain_order binary64) p own l g nan (length l - above) passed_rest 0
      ∙ ap (λ (i : ℕ). get_or (sort lt l) i nan) (let z : length l - above + 0 ≡ k + 1 = omega arith in z)

-- ---- the floor, of powers that were searched

module _ (ps m : List Float) (s : Search) (pos : 0 < length ps) (g : Selected ps ((length ps - 1) / 2) m s) where
  pub lower_power : get_or m s.place nan ≡ get_or (sort lt ps) ((length ps - 1) / 2) nan
  lower_power =
      ap (λ (i : ℕ). get_or m i nan) (sym (add-zero s.place))
      ∙ g.same 0 (let h = g.inside in omega arith)
      ∙ ap (λ (i : ℕ). get_or (sort lt ps) i nan) (add-zero ((length ps - 1) / 2))

  pub floor_found : (q : Float) → q ≡ get_or (sort lt ps) (length ps / 2) nan → mul binary64 (add binary64 (get_or m s.place nan) q) one_half ≡ floor_of ps
  unfolding floor_of
  floor_found q f =
      let l = sort lt ps in
      let k = sort_length lt ps in
      let x = lower_power ∙ read_any l ((length ps - 1) / 2) nan zero_f (omega arith) in
      let y = f ∙ read_any l (length ps / 2) nan zero_f (omega arith) in
      λ i. mul binary64 (add binary64 (x i) (y i)) one_half

-- what the test of the powers says
pub all_are_plain : (l : List Float) → all_of sign_clear l ≡ true → All (λ x. T (fits binary64 x)) l → All (Plain binary64) l
unfolding all_of
all_are_plain [] e g = tt
all_are_plain (x ∷ l) e g = go (sign_clear x) refl e (λ k. all_are_plain l k g.1)
  where
    go : (b : Bool) → sign_clear x ≡ b → (b && all_of sign_clear l) ≡ true → (all_of sign_clear l ≡ true → All (Plain binary64) l) → All (Plain binary64) (x ∷ l)
    go true h k r = ((subst T (sym h) tt, g.0), r k)
    go false h k r = absurd (subst T (sym k) tt)
