-- Laws of lists by an index. Assumes nothing.
use Rattle.std.specs.Prelude.{◌≡◌, refl, Bool, true, false, not, ◌&&◌, List, [], ◌∷◌, ◌++◌, map, ℕ, zero, suc, ◌+◌, ◌≤◌, ◌<◌, eqb, length, get_or, drop}
use Rattle.std.proofs.Common.{sym, ap, ◌∙◌, arith, add-one, ne_eqb, length-append, drop_of_length-le, drop-cons}
use Rattle.std.proofs.Math.Decide.{ℕ_discrete}
use mir.Val.{bool_byte}
use Rattle.std.proofs.Math.ListN.{get_or-append}
use Rattle.std.proofs.lemmas.List.{get_or_at}
use Rattle.rules.specs.Lists.{up_to, indicator, all_of}

pub length_up_to : {A : Type 0} (f : ℕ → A) (n : ℕ) → length (up_to f n) ≡ n
unfolding up_to
length_up_to f zero = refl
length_up_to f (suc n) = let r = length_up_to f n in let a = length-append (up_to f n) (f n ∷ []) in omega arith

pub get_d_up_to : {A : Type 0} (d : A) (f : ℕ → A) (n k : ℕ) → k < n → get_or (up_to f n) k d ≡ f k
unfolding up_to
get_d_up_to d f zero k h = absurd (omega arith)
get_d_up_to d f (suc n) k h = go (ℕ_discrete k n) (get_d_up_to d f n k) (length_up_to f n)
  where
    go : Dec (k ≡ n) → (k < n → get_or (up_to f n) k d ≡ f k) → length (up_to f n) ≡ n → get_or (up_to f n ++ (f n ∷ [])) k d ≡ f k
    go (yes e) r len = rw e (get_or_at (up_to f n) (f n) [] d n len)
    go (no e) r len = get_or-append (up_to f n) (f n ∷ []) d k (omega arith) ∙ r (omega arith)

pub length-map : {A B : Type 0} (f : A → B) (l : List A) → length (map f l) ≡ length l
length-map f [] = refl
length-map f (x ∷ l) = ap suc (length-map f l)

pub up_to_same : {A : Type 0} (f g : ℕ → A) (n : ℕ) → ((i : ℕ) → i < n → f i ≡ g i) → up_to f n ≡ up_to g n
unfolding up_to
up_to_same f g zero h = refl
up_to_same f g (suc n) h = λ k. up_to_same f g n (λ i l. h i (omega arith)) k ++ (h n (omega arith) k ∷ [])

pub indicator_few : (b : Bool) → indicator b ≤ 1
indicator_few true = omega arith
indicator_few false = omega arith

-- a read within the list does not turn on what stands for a place past its end
pub read_any : {A : Type 0} (l : List A) (k : ℕ) (d e : A) → k < length l → get_or l k d ≡ get_or l k e
read_any [] k d e h = absurd (omega arith)
read_any (x ∷ l) zero d e h = refl
read_any (x ∷ l) (suc k) d e h = read_any l k d e (omega arith)

-- ---- a loop that tests every element: good tells of those before k

all_done : {A : Type 0} (p : A → Bool) (l : List A) (k : ℕ) → length l ≤ k → true ≡ all_of p (drop k l)
unfolding all_of
all_done p l k h = sym (ap (all_of p) (drop_of_length-le l {i = k} h))

pub good_next : {A : Type 0} (p : A → Bool) (d : A) (l : List A) (k : ℕ) (good here : Bool) → k < length l → here ≡ p (get_or l k d)
    → (good && all_of p (drop k l)) ≡ all_of p l → ((here && good) && all_of p (drop (k + 1) l)) ≡ all_of p l
unfolding all_of
good_next {A = A} p d l k good here h e i =
    ap (λ (b : Bool). (b && good) && all_of p (drop (k + 1) l)) e
    ∙ swap (p (get_or l k d)) good (all_of p (drop (k + 1) l))
    ∙ ap (λ (m : List A). good && all_of p m) (sym (drop-cons l k d h ∙ ap (λ (j : ℕ). get_or l k d ∷ drop j l) (sym (add-one k))))
    ∙ i
  where
    swap : (a b c : Bool) → ((a && b) && c) ≡ (b && (a && c))
    swap true b c = refl
    swap false true c = refl
    swap false false c = refl

pub good_done : {A : Type 0} (p : A → Bool) (l : List A) (k : ℕ) (good : Bool) → length l ≤ k → (good && all_of p (drop k l)) ≡ all_of p l → good ≡ all_of p l
unfolding all_of
good_done p l k good h i = sym (unit good) ∙ ap (λ (b : Bool). good && b) (all_done p l k h) ∙ i
  where
    unit : (b : Bool) → (b && true) ≡ b
    unit true = refl
    unit false = refl

-- by how many before k do not pass
pub none_next : {A : Type 0} (p : A → Bool) (d : A) (l : List A) (k others : ℕ) (here : Bool) → k < length l → here ≡ p (get_or l k d)
    → (eqb others 0 && all_of p (drop k l)) ≡ all_of p l → (eqb (others + bool_byte (not here)) 0 && all_of p (drop (k + 1) l)) ≡ all_of p l
none_next p d l k others here h e i = ap (λ (b : Bool). b && all_of p (drop (k + 1) l)) (one here) ∙ good_next p d l k (eqb others 0) here h e i
  where
    one : (b : Bool) → eqb (others + bool_byte (not b)) 0 ≡ (b && eqb others 0)
    one true = ap (λ (m : ℕ). eqb m 0) (let z : others + 0 ≡ others = omega arith in z)
    one false = ne_eqb (others + 1) 0 (λ q. omega arith)

pub byte_is : (b : Bool) → bool_byte b ≡ indicator b
byte_is true = refl
byte_is false = refl

pub bit : (b : Bool) → bool_byte b ≤ 1
bit b = omega (arith, byte_is b, indicator_few b)
