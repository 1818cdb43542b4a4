-- The impulse rules from a list of flags that is at hand, so that a closed case works each flag out once. Assumes nothing.
use Rattle.std.specs.Prelude.{◌≡◌, Bool, ◌&&◌, eqb}
use Rattle.std.proofs.Math.Path.{refl, sym, ap}
use Rattle.std.proofs.Common.{◌∙◌, add_comm, add-one, eqb→eq}
use Rattle.std.proofs.Math.Bool.{true, false, cond}
use mathlib.Core.List.{List, [], ◌∷◌, ◌++◌, map}
use Prim.Native.Nat.{ℕ, zero, suc, ◌+◌, ◌*◌, ◌-◌, ◌/◌, ◌≤◌, ◌<◌}
use Rattle.std.proofs.Math.Nat.{div-mul-le_self}
use native.Mathlib.Omega.{arith}
use Rattle.std.proofs.Math.Dec.{T}
use Rattle.std.specs.Float.Ieee.Fits.{and_l, and_r}
use Rattle.std.proofs.Math.ListN.{length, get_or, take, drop}
use Rattle.std.proofs.Math.Seq.{drop-drop, get_or-drop}
use Rattle.rules.specs.Lists.{at, up_to}
use Rattle.rules.specs.Pauses.{Edition, paused}
use Rattle.rules.specs.Impulse.{Setting, lookahead, power_of, reference, stands_out, flagged, judged, before, events_at, events, happened, value, handed_on}
use Rattle.rules.specs.Impulse.{paused_in}
use Rattle.rules.proofs.laws.Runs.{before_le}
use Rattle.rules.proofs.laws.Prefix.{before_same, paused_same, touches_same, value_same}

-- f j, .., f (j + n - 1)
unfoldable pub from : {A : Type 0} → (ℕ → A) → ℕ → ℕ → List A
from f zero j = []
from f (suc n) j = f j ∷ from f n (suc j)

from_at : {A : Type 0} (f : ℕ → A) (n j i : ℕ) (d : A) → i < n → get_or (from f n j) i d ≡ f (j + i)
unfolding from
from_at f zero j i d h = absurd (omega arith)
from_at f (suc n) j zero d h = let e : j ≡ j + 0 = omega arith in ap f e
from_at f (suc n) j (suc i) d h = let e : suc j + i ≡ j + suc i = omega arith in from_at f n (suc j) i d (omega arith) ∙ ap f e

-- the flags of all that is judged
unfoldable pub flags_of : Setting → List ℕ → List Bool
flags_of s xs = from (flagged s xs) (judged s (length xs)) 0

abbrev pub look : List Bool → ℕ → Bool
look fl j = get_or fl j false

-- G gives the flags
module _ (s : Setting) (E : ℕ → Edition) (xs : List ℕ) (G : ℕ → Bool) (known : flags_of s xs ≡ from G (judged s (length xs)) 0) where
  abbrev J : ℕ
  J = judged s (length xs)

  agree : (i : ℕ) → i < J → flagged s xs i ≡ G i
  unfolding flags_of
  agree i h =
      let e : 0 + i ≡ i = omega arith in
      sym (from_at (flagged s xs) J 0 i false h ∙ ap (flagged s xs) e) ∙ ap (λ (l : List Bool). get_or l i false) known ∙ from_at G J 0 i false h ∙ ap G e

  abbrev P : ℕ → Bool
  P = paused_in s E xs

  abbrev Q : ℕ → Bool
  Q = paused E s.block G

  paused_agree : (b : ℕ) → b * s.block ≤ J → P b ≡ Q b
  paused_agree = paused_same s (flagged s xs) G J agree E

  events_same : (j : ℕ) → j ≤ J → events s (flagged s xs) P xs j ≡ events s G Q xs j
  unfolding events events_at
  events_same zero h = refl
  events_same (suc j) h =
      let F = flagged s xs in
      let b = before_le G j in
      let d = div-mul-le_self j s.block in
      rw (
        events_same j (omega arith),
        agree j h,
        before_same s F G J agree j (omega arith),
        touches_same s P Q J paused_agree (j - before G j) (before G j) (omega arith),
        paused_agree (j / s.block) (omega arith),
      )

  pub happened_by : happened s E xs ≡ events s G Q xs J
  unfolding happened
  happened_by = events_same J (omega arith)

  values : (n : ℕ) → up_to (value s (flagged s xs) P xs J) n ≡ up_to (value s G Q xs J) n
  unfolding up_to
  values zero = refl
  values (suc n) = rw (values n, value_same s (flagged s xs) G P Q xs xs J agree paused_agree (λ i h. refl) J n (omega arith) refl)

  pub handed_by : handed_on s E xs ≡ cond s.apply (up_to (value s G Q xs J) (length xs - lookahead s)) xs
  unfolding handed_on
  handed_by = ap (λ (l : List ℕ). cond s.apply l xs) (values (length xs - lookahead s))

-- ---- a quicker way to the same flags: where a sample and its window are those of the sample before, so is the answer

abbrev around : Setting → List ℕ → ℕ → List ℕ
around s xs j = drop (j - s.half) (take (j + s.half + 1) xs)

unfoldable pub answer : Setting → List ℕ → ℕ → Bool
answer s w x = stands_out (reference s (map power_of w)) (power_of x)

flag_is : (s : Setting) (xs : List ℕ) (j : ℕ) → answer s (around s xs j) (at xs j) ≡ flagged s xs j
unfolding answer flagged
flag_is s xs j = refl

same_all : List ℕ → List ℕ → Bool
same_all [] [] = true
same_all [] (y ∷ ys) = false
same_all (x ∷ xs) [] = false
same_all (x ∷ xs) (y ∷ ys) = let rest = same_all xs ys in eqb x y && rest

same→eq : (xs ys : List ℕ) → T (same_all xs ys) → xs ≡ ys
unfolding same_all
same→eq [] [] h = refl
same→eq [] (y ∷ ys) h = absurd h
same→eq (x ∷ xs) [] h = absurd h
same→eq (x ∷ xs) (y ∷ ys) h =
    let e = eqb→eq x y (and_l (eqb x y) (same_all xs ys) h) in
    let f = same→eq xs ys (and_r (eqb x y) (same_all xs ys) h) in
    ap (λ (z : ℕ). z ∷ xs) e ∙ ap (λ (l : List ℕ). y ∷ l) f

drop_take : (i n : ℕ) (l : List ℕ) → drop i (take (i + n) l) ≡ take n (drop i l)
drop_take zero n l = let e : 0 + n ≡ n = omega arith in ap (λ (k : ℕ). take k l) e
drop_take (suc i) n l = let e : suc i + n ≡ suc (i + n) = omega arith in ap (λ (k : ℕ). drop (suc i) (take k l)) e ∙ go (drop_take i n) l
  where
    go : ((l : List ℕ) → drop i (take (i + n) l) ≡ take n (drop i l)) → (l : List ℕ) → drop (suc i) (take (suc (i + n)) l) ≡ take n (drop (suc i) l)
    go less [] = nothing n
      where
        nothing : (n : ℕ) → [] ≡ take {A = ℕ} n []
        nothing zero = refl
        nothing (suc n) = refl
    go less (x ∷ l) = less l

from_split : {A : Type 0} (f : ℕ → A) (n m j : ℕ) → from f (n + m) j ≡ from f n j ++ from f m (j + n)
unfolding from
from_split f zero m j = let e : 0 + m ≡ m = omega arith in let d : j ≡ j + 0 = omega arith in ap (λ (k : ℕ). from f k j) e ∙ ap (from f m) d
from_split {A = A} f (suc n) m j =
    let e : suc n + m ≡ suc (n + m) = omega arith in
    let d : suc j + n ≡ j + suc n = omega arith in
    ap (λ (k : ℕ). from f k j) e ∙ ap (λ (l : List A). f j ∷ l) (from_split f n m (suc j) ∙ ap (λ (k : ℕ). from f n (suc j) ++ from f m k) d)

module _ (s : Setting) where
  -- the answer for the window w around x, given b, that for v around q
  again : List ℕ → ℕ → Bool → List ℕ → ℕ → Bool
  again v q b w x = let fresh = answer s w x in cond (eqb x q && same_all w v) b fresh

  again_is : (v : List ℕ) (q : ℕ) (w : List ℕ) (x : ℕ) → again v q (answer s v q) w x ≡ answer s w x
  unfolding again
  again_is v q w x = go (eqb x q && same_all w v) (λ t. t)
    where
      go : (t : Bool) → (T t → T (eqb x q && same_all w v)) → cond t (answer s v q) (answer s w x) ≡ answer s w x
      go true h =
          ap (λ (l : List ℕ). answer s l q) (sym (same→eq w v (and_r (eqb x q) (same_all w v) (h tt))))
          ∙ ap (answer s w) (sym (eqb→eq x q (and_l (eqb x q) (same_all w v) (h tt))))
      go false h = refl

  -- n flags, the first of a sample whose whole window begins the list
  slide : ℕ → List ℕ → List ℕ → ℕ → Bool → List Bool
  slide zero rest v q b = []
  slide (suc n) rest v q b =
      let w = take (s.half + s.half + 1) rest in
      let x = at rest s.half in
      let r = again v q b w x in
      r ∷ slide n (drop 1 rest) w x r

  slide_is : (xs : List ℕ) (n i : ℕ) (v : List ℕ) (q : ℕ) → slide n (drop i xs) v q (answer s v q) ≡ from (flagged s xs) n (s.half + i)
  unfolding slide from
  slide_is xs zero i v q = refl
  slide_is xs (suc n) i v q =
      let h = s.half in
      let w = take (h + h + 1) (drop i xs) in
      let x = at (drop i xs) h in
      let a : h + i - h ≡ i = omega arith in
      let b : h + i + h + 1 ≡ i + (h + h + 1) = omega arith in
      let win : around s xs (h + i) ≡ w = ap (λ (k : ℕ). drop k (take (h + i + h + 1) xs)) a ∙ ap (λ (k : ℕ). drop i (take k xs)) b
      ∙ drop_take i (h + h + 1) xs in
      let is_x : x ≡ at xs (h + i) = get_or-drop i xs h 0 ∙ ap (at xs) (add_comm i h) in
      let f : answer s w x ≡ flagged s xs (h + i) = ap (λ (l : List ℕ). answer s l x) (sym win) ∙ ap (answer s (around s xs (h + i))) is_x
      ∙ flag_is s xs (h + i) in
      let d : drop 1 (drop i xs) ≡ drop (suc i) xs = drop-drop 1 i xs ∙ ap (λ (k : ℕ). drop k xs) (add-one i) in
      let t : h + suc i ≡ suc (h + i) = omega arith in
      ap (λ (b : Bool). b ∷ slide n (drop 1 (drop i xs)) w x b) (again_is v q w x)
      ∙ ap (λ (l : List ℕ). answer s w x ∷ slide n l w x (answer s w x)) d
      ∙ ap (λ (l : List Bool). answer s w x ∷ l) (slide_is xs n (suc i) w x)
      ∙ ap (λ (k : ℕ). answer s w x ∷ from (flagged s xs) n k) t
      ∙ ap (λ (b : Bool). b ∷ from (flagged s xs) n (suc (h + i))) f

  -- the first half window one by one, and the rest by sliding
  unfoldable pub quick_flags : List ℕ → List Bool
  unfolding slide again answer same_all from
  quick_flags xs = from (flagged s xs) s.half 0 ++ slide (length xs - (s.half + s.half)) xs [] 0 (answer s [] 0)

  pub quick_flags_lem : (xs : List ℕ) → s.half + s.half ≤ length xs → flags_of s xs ≡ quick_flags xs
  unfolding flags_of quick_flags
  quick_flags_lem xs g =
      let h = s.half in
      let m = length xs - (h + h) in
      let e : length xs - h ≡ h + m = omega arith in
      let z : 0 + h ≡ h + 0 = omega arith in
      ap (λ (k : ℕ). from (flagged s xs) k 0) e
      ∙ from_split (flagged s xs) h m 0
      ∙ ap (λ (k : ℕ). from (flagged s xs) h 0 ++ from (flagged s xs) m k) z
      ∙ ap (λ (l : List Bool). from (flagged s xs) h 0 ++ l) (sym (slide_is xs m 0 [] 0))
