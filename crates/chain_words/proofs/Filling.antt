-- Words written one behind another, and a list made element by element. Assumes nothing.
use mathlib.Core.Path.{◌≡◌, refl, sym, ap, ◌∙◌}
use mathlib.Core.List.{List, [], ◌∷◌, ◌++◌, append_assoc, append-nil}
use Prim.Native.Nat.{ℕ, suc, ◌+◌, ◌≤◌, ◌<◌}
use native.Mathlib.Omega.{arith}
use lib.ListN.{length, get_or, take, drop, set, length-set, length-take, length-drop}
use lib.Seq.{take-suc, take-suc-set, take_all, get_or-take, get_or-drop}

-- ---- over some places of a list

-- the first k of ys stand from `at` on
abbrev pub Filled : {A : Type 0} → List A → ℕ → List A → List A → ℕ → Type 0
Filled ys at ws₀ ws k = (k ≤ length ys) × (length ws ≡ length ws₀) × (take (at + k) ws ≡ take at ws₀ ++ take k ys)

pub filled_none : {A : Type 0} (ys : List A) (at : ℕ) (ws : List A) → Filled ys at ws ws 0
filled_none ys at ws =
    let e : at + 0 ≡ at = omega arith in
    (omega arith, refl, ap (λ (i : ℕ). take i ws) e ∙ sym (append-nil (take at ws)))

module _ {A : Type 0} (d : A) (ys : List A) (at : ℕ) (ws₀ ws : List A) (k : ℕ) where
  pub filled_next : (x : A) → at + length ys ≤ length ws₀ → k < length ys → x ≡ get_or ys k d → Filled ys at ws₀ ws k
      → Filled ys at ws₀ (set ws (at + k) x) (k + 1)
  filled_next x room h e c =
      let f : at + (k + 1) ≡ suc (at + k) = omega arith in
      let g : k + 1 ≡ suc k = omega arith in (
        omega arith,
        length-set ws (at + k) x ∙ c.1,
        ap (λ (i : ℕ). take i (set ws (at + k) x)) f
            ∙ take-suc-set ws (at + k) x (omega arith)
            ∙ (λ i. c.2 i ++ (e i ∷ []))
            ∙ append_assoc (take at ws₀) (take k ys) (get_or ys k d ∷ [])
            ∙ ap (λ (l : List A). take at ws₀ ++ l) (sym (ap (λ (i : ℕ). take i ys) g ∙ take-suc ys k d h)),
      )

  pub filled_all : length ys ≤ k → Filled ys at ws₀ ws k → take (at + length ys) ws ≡ take at ws₀ ++ ys
  filled_all h c =
      let e : length ys ≡ k = omega arith in
      ap (λ (i : ℕ). take (at + i) ws) e ∙ c.2 ∙ ap (λ (l : List A). take at ws₀ ++ l) (take_all k ys h)

-- ---- over a whole list

-- the first k are those of ys
abbrev pub Made : {A : Type 0} → List A → List A → ℕ → Type 0
Made ys ws k = (k ≤ length ys) × (length ws ≡ length ys) × (take k ws ≡ take k ys)

module _ {A : Type 0} (d : A) (ys ws : List A) (k : ℕ) where
  pub made_next : (x : A) → k < length ys → x ≡ get_or ys k d → Made ys ws k → Made ys (set ws k x) (k + 1)
  made_next x h e c =
      let g : k + 1 ≡ suc k = omega arith in (
        omega arith,
        length-set ws k x ∙ c.1,
        ap (λ (i : ℕ). take i (set ws k x)) g
            ∙ take-suc-set ws k x (omega arith)
            ∙ (λ i. c.2 i ++ (e i ∷ []))
            ∙ sym (ap (λ (i : ℕ). take i ys) g ∙ take-suc ys k d h),
      )

  pub made_all : length ys ≤ k → Made ys ws k → ws ≡ ys
  made_all h c = sym (take_all k ws (omega arith)) ∙ c.2 ∙ take_all k ys h

-- ---- a part of a list

pub get_d_part : {A : Type 0} (at n k : ℕ) (l : List A) (d : A) → k < n → get_or (take n (drop at l)) k d ≡ get_or l (at + k) d
get_d_part at n k l d h = get_or-take n (drop at l) k d h ∙ get_or-drop at l k d

pub part_length : {A : Type 0} (at n : ℕ) (l : List A) → at + n ≤ length l → length (take n (drop at l)) ≡ n
part_length at n l h = simp (length-take, length-drop) (omega arith)

-- ---- one part behind another

-- a list that equals ys, put behind x
pub behind : {A : Type 0} (at m : ℕ) (x list ys ws₀ ws : List A) → take at ws₀ ≡ x → list ≡ ys → at + length ys ≡ m
    → take (at + length list) ws ≡ take at ws₀ ++ list → take m ws ≡ x ++ ys
behind {A = A} at m x list ys ws₀ ws front same long put =
    ap (λ (i : ℕ). take i ws) (sym (ap (λ (l : List A). at + length l) same ∙ long)) ∙ put ∙ (λ i. front i ++ same i)

-- a second behind a first
pub two : {A : Type 0} (x a b : List A) {y z : List A} → y ≡ x ++ a → z ≡ y ++ b → z ≡ x ++ (a ++ b)
two {A = A} x a b p q = q ∙ ap (λ (l : List A). l ++ b) p ∙ append_assoc x a b
