-- One turn of each loop over the words, on plain lists; the copied powers, and the floor read from them sorted. Assumes nothing.
use mathlib.Core.Path.{◌≡◌, refl, sym, ap, ◌∙◌, subst}
use mathlib.Core.Bool.{Bool, true, false, cond}
use mathlib.Core.List.{List, [], ◌∷◌, ◌++◌, append_assoc, append-nil}
use Prim.Native.Nat.{ℕ, suc, ◌+◌, ◌-◌, ◌/◌, ◌≤◌, ◌<◌}
use native.Mathlib.Omega.{arith}
use native.Mathlib.Numerals.{add-one}
use lib.ListN.{length, get_or, take, drop, set, length-set, length-append, length-drop, drop_of_length-le, get_or-append}
use lib.Seq.{take_all, take-suc, drop-cons, take-append-le, drop_at, set_split, take-suc-set, drop-set-lt, get_or-take, take-take}
use lib.Seq.{length-take-le}
use lib.Ieee.{Float, nan, binary64, lt, add, mul}
use Rattle.rules.specs.Constants.{zero_f, one_half}
use Rattle.rules.specs.Monitor.{floor_of}
use Rattle.rules.specs.Sort.{insert, sort}
use Rattle.rules.proofs.laws.ListLaws.{read_any}
use Rattle.rules.proofs.laws.SortLaws.{all_append}
use Rattle.rules.specs.Lists.{All}

-- ---- `sink`: what is behind i is as it was, and a is to be inserted there
abbrev pub Sinking : List Float → ℕ → Float → List Float → ℕ → Type 0
Sinking l₀ k a l i =
    (i < length l₀) × (length l ≡ length l₀) × (take i l ++ insert lt a (drop (i + 1) l) ≡ take k l₀ ++ insert lt a (drop (k + 1) l₀))

pub insert_pass : (a c : Float) (l : List Float) → lt c a ≡ true → insert lt a (c ∷ l) ≡ c ∷ insert lt a l
unfolding insert
insert_pass a c l e = ap (λ (b : Bool). cond b (c ∷ insert lt a l) (a ∷ c ∷ l)) e

pub insert_stop : (a c : Float) (l : List Float) → lt c a ≡ false → insert lt a (c ∷ l) ≡ a ∷ c ∷ l
unfolding insert
insert_stop a c l e = ap (λ (b : Bool). cond b (c ∷ insert lt a l) (a ∷ c ∷ l)) e

pub insert_end : (a : Float) → insert lt a [] ≡ a ∷ []
unfolding insert
insert_end a = refl

pub sinking_next : (l₀ : List Float) (k : ℕ) (a : Float) (l : List Float) (i : ℕ) → i + 1 < length l → lt (get_or l (i + 1) nan) a ≡ true → Sinking l₀ k a l i
    → Sinking l₀ k a (set l i (get_or l (i + 1) nan)) (i + 1)
sinking_next l₀ k a l i h t s =
    let b = get_or l (i + 1) nan in
    let rest = drop (i + 1 + 1) l in
    let one : drop (i + 1) l ≡ b ∷ rest = drop-cons l (i + 1) nan h ∙ ap (λ (j : ℕ). b ∷ drop j l) (sym (add-one (i + 1))) in
    let front : take (i + 1) (set l i b) ≡ take i l ++ (b ∷ []) = ap (λ (j : ℕ). take j (set l i b)) (add-one i) ∙ take-suc-set l i b (omega arith) in
    let back : drop (i + 1 + 1) (set l i b) ≡ rest = drop-set-lt (i + 1 + 1) l i b (omega arith) in (
      omega arith,
      length-set l i b ∙ s.1,
      ap (λ (p : List Float). p ++ insert lt a (drop (i + 1 + 1) (set l i b))) front
          ∙ ap (λ (p : List Float). (take i l ++ (b ∷ [])) ++ insert lt a p) back
          ∙ append_assoc (take i l) (b ∷ []) (insert lt a rest)
          ∙ ap (λ (p : List Float). take i l ++ p) (sym (ap (insert lt a) one ∙ insert_pass a b rest t))
          ∙ s.2,
    )

-- it stands before one that is not below it, or at the end
pub sinking_stop : (l₀ : List Float) (k : ℕ) (a : Float) (l : List Float) (i : ℕ) → lt (get_or l (i + 1) nan) a ≡ false → i + 1 < length l → Sinking l₀ k a l i
    → set l i a ≡ take k l₀ ++ insert lt a (drop (k + 1) l₀)
sinking_stop l₀ k a l i t h s =
    let b = get_or l (i + 1) nan in
    let one : drop (i + 1) l ≡ b ∷ drop (suc (i + 1)) l = drop-cons l (i + 1) nan h in
    set_split l i a (omega arith)
    ∙ ap (λ (j : ℕ). take i l ++ (a ∷ drop j l)) (sym (add-one i))
    ∙ ap (λ (p : List Float). take i l ++ p) (ap (λ (p : List Float). a ∷ p) one ∙ sym (ap (insert lt a) one ∙ insert_stop a b (drop (suc (i + 1)) l) t))
    ∙ s.2

pub sinking_end : (l₀ : List Float) (k : ℕ) (a : Float) (l : List Float) (i : ℕ) → length l ≤ i + 1 → Sinking l₀ k a l i
    → set l i a ≡ take k l₀ ++ insert lt a (drop (k + 1) l₀)
sinking_end l₀ k a l i h s =
    let none : drop (i + 1) l ≡ [] = drop_of_length-le l {i = i + 1} h in
    set_split l i a (omega arith)
    ∙ ap (λ (j : ℕ). take i l ++ (a ∷ drop j l)) (sym (add-one i))
    ∙ ap (λ (p : List Float). take i l ++ p) (ap (λ (p : List Float). a ∷ p) none ∙ sym (ap (insert lt a) none ∙ insert_end a))
    ∙ s.2

-- ---- `sort_words`: from k on the words are sorted
abbrev pub Sorting : List Float → List Float → ℕ → Type 0
Sorting l₀ l k = (k ≤ length l₀) × (l ≡ take k l₀ ++ sort lt (drop k l₀))

sort_cons : (a : Float) (l : List Float) → sort lt (a ∷ l) ≡ insert lt a (sort lt l)
unfolding sort
sort_cons a l = refl

sort_nil : sort lt [] ≡ []
unfolding sort
sort_nil = refl

length_insert : (a : Float) (l : List Float) → length (insert lt a l) ≡ suc (length l)
unfolding insert
length_insert a [] = refl
length_insert a (c ∷ l) = go (lt c a) (length_insert a l)
  where
    go : (t : Bool) → length (insert lt a l) ≡ suc (length l) → length (cond t (c ∷ insert lt a l) (a ∷ c ∷ l)) ≡ suc (suc (length l))
    go true r = ap suc r
    go false r = refl

pub length_sort : (l : List Float) → length (sort lt l) ≡ length l
unfolding sort
length_sort [] = refl
length_sort (a ∷ l) = length_insert a (sort lt l) ∙ ap suc (length_sort l)

pub sorting_length : (l₀ l : List Float) (k : ℕ) → Sorting l₀ l k → length l ≡ length l₀
sorting_length l₀ l k s =
    let a = length-append (take k l₀) (sort lt (drop k l₀)) in
    let b = length_sort (drop k l₀) in
    let c = length-take-le k l₀ s.0 in
    let d = length-drop k l₀ in
    let e = ap length s.1 in
    omega arith

pub sorting_none : (l : List Float) → Sorting l l (length l)
sorting_none l = (
  omega arith,
  sym (ap (λ (p : List Float). take (length l) l ++ p) (ap (sort lt) (drop_of_length-le l {i = length l} (omega arith)) ∙ sort_nil)
      ∙ append-nil (take (length l) l) ∙ take_all (length l) l (omega arith)),
)

pub sorting_next : (l₀ l l' : List Float) (k : ℕ) → 0 < k → l' ≡ take (k - 1) l ++ insert lt (get_or l (k - 1) nan) (drop (k - 1 + 1) l) → Sorting l₀ l k
    → Sorting l₀ l' (k - 1)
sorting_next l₀ l l' k K e s =
    let j = k - 1 in
    let back : j + 1 ≡ k = omega arith in
    let n : length (take k l₀) ≡ k = length-take-le k l₀ s.0 in
    let front : take j l ≡ take j l₀ = ap (take j) s.1 ∙ take-append-le j (take k l₀) (sort lt (drop k l₀)) (omega arith) ∙ take-take j k l₀ (omega arith) in
    let here : get_or l j nan ≡ get_or l₀ j nan = ap (λ (p : List Float). get_or p j nan) s.1
    ∙ get_or-append (take k l₀) (sort lt (drop k l₀)) nan j (omega arith) ∙ get_or-take k l₀ j nan (omega arith) in
    let rest : drop (j + 1) l ≡ sort lt (drop k l₀) = ap (λ (i : ℕ). drop i l) back ∙ ap (drop k) s.1 ∙ drop_at (take k l₀) (sort lt (drop k l₀)) k n in
    let last : drop j l₀ ≡ get_or l₀ j nan ∷ drop k l₀ = drop-cons l₀ j nan (omega arith)
    ∙ ap (λ (i : ℕ). get_or l₀ j nan ∷ drop i l₀) (sym (add-one j) ∙ back) in (
      omega arith,
      e
          ∙ ap (λ (p : List Float). p ++ insert lt (get_or l j nan) (drop (j + 1) l)) front
          ∙ ap (λ (x : Float). take j l₀ ++ insert lt x (drop (j + 1) l)) here
          ∙ ap (λ (p : List Float). take j l₀ ++ insert lt (get_or l₀ j nan) p) rest
          ∙ ap (λ (p : List Float). take j l₀ ++ p) (sym (ap (sort lt) last ∙ sort_cons (get_or l₀ j nan) (drop k l₀))),
    )

pub sorting_all : (l₀ l : List Float) (k : ℕ) → k ≤ 0 → Sorting l₀ l k → l ≡ sort lt l₀
sorting_all l₀ l k h s = let z : k ≡ 0 = omega arith in s.1 ∙ ap (λ (i : ℕ). take i l₀ ++ sort lt (drop i l₀)) z

-- ---- `sorted_floor`
pub floor_read : (ps sorted : List Float) → 0 < length ps → sorted ≡ sort lt ps
    → mul binary64 (add binary64 (get_or sorted ((length sorted - 1) / 2) nan) (get_or sorted (length sorted / 2) nan)) one_half ≡ floor_of ps
unfolding floor_of
floor_read ps sorted h e =
    let n = length_sort ps in
    rw (e, n, read_any (sort lt ps) ((length ps - 1) / 2) nan zero_f (omega arith), read_any (sort lt ps) (length ps / 2) nan zero_f (omega arith)) refl

-- a fact of every word, one word on
pub all_at : (P : Float → Type 0) (l : List Float) (k : ℕ) → k < length l → P (get_or l k nan) → All P (take k l) → All P (take (k + 1) l)
all_at P l k h x g = subst (All P) (sym (ap (λ (i : ℕ). take i l) (add-one k) ∙ take-suc l k nan h)) (all_append P (take k l) (get_or l k nan ∷ []) g (x, tt))
