-- Laws of a circular array by number: what is read of it, and that a list that reads as it does is that array. Assumes nothing.
use Rattle.std.specs.Prelude.{◌≡◌, ◌≢◌, List, [], ◌∷◌, set, replicate}
use Rattle.std.proofs.Math.Path.{refl}
use Rattle.std.proofs.Common.{ap, sym, ◌∙◌, subst, div-add-mod', mul-le-mul_right, suc-mul, get_or-set_same, ext_get_or}
use Prim.Native.Nat.{ℕ, zero, suc, ◌+◌, ◌*◌, ◌/◌, ◌%◌, ◌≤◌, ◌<◌}
use Rattle.std.proofs.Math.Decide.{dec_lt, ℕ_discrete}
use Rattle.std.proofs.Math.Nat.{mod-lt, mod-eq_of_lt, add-mod_right}
use native.Mathlib.Omega.{arith}
use Rattle.std.proofs.Math.ListN.{length, get_or, length-set, length-replicate, get_or-replicate}
use Rattle.std.proofs.Math.Seq.{get_or-set_other}
use Rattle.impulse.specs.Circle.{circle}

-- two numbers less than `size` apart stand at two places
pub apart : (size a b : ℕ) → a < b → b < a + size → a % size ≢ b % size
apart size a b h k e =
    let p = div-add-mod' a size in
    let q = div-add-mod' b size in
    go (dec_lt (a / size) (b / size)) p q
  where
    go : Dec (a / size < b / size) → a / size * size + a % size ≡ a → b / size * size + b % size ≡ b → ⊥
    go (yes l) p q = let m = mul-le-mul_right size l in let s = suc-mul (a / size) size in omega arith
    go (no l) p q = let n : b / size ≤ a / size = omega arith in let m = mul-le-mul_right size n in omega arith

-- what is `size` later stands at the same place
pub around : (size k n : ℕ) → n ≡ k + size → n % size ≡ k % size
around size k n e = rw (e, add-mod_right)

pub any_default : {A : Type 0} (l : List A) (i : ℕ) (d e : A) → i < length l → get_or l i d ≡ get_or l i e
any_default [] i d e h = absurd (omega arith)
any_default (x ∷ l) zero d e h = refl
any_default (x ∷ l) (suc i) d e h = any_default l i d e (omega arith)

-- ---- `circle`

module _ {A : Type 0} (d : A) (size : ℕ) where
  -- one more
  pub circle_push : (n : ℕ) (g : ℕ → A) → set (circle d size n g) (n % size) (g n) ≡ circle d size (suc n) g
  unfolding circle
  circle_push n g = refl

  pub circle_fresh : (g : ℕ → A) → circle d size zero g ≡ replicate size d
  unfolding circle
  circle_fresh g = refl

  pub circle_length : (n : ℕ) (g : ℕ → A) → length (circle d size n g) ≡ size
  unfolding circle
  circle_length zero g = length-replicate size d
  circle_length (suc n) g = length-set (circle d size n g) (n % size) (g n) ∙ circle_length n g

  -- the last `size` are read
  pub circle_read : (n : ℕ) (g : ℕ → A) (k : ℕ) → k < n → n ≤ k + size → get_or (circle d size n g) (k % size) d ≡ g k
  unfolding circle
  circle_read zero g k h w = absurd (omega arith)
  circle_read (suc n) g k h w =
      let len = circle_length n g in
      let z : 0 < size = omega arith in
      let m = mod-lt n z in
      go (ℕ_discrete k n) (λ a b. circle_read n g k a b) len m
    where
      go : Dec (k ≡ n) → (k < n → n ≤ k + size → get_or (circle d size n g) (k % size) d ≡ g k) → length (circle d size n g) ≡ size → n % size < size
          → get_or (set (circle d size n g) (n % size) (g n)) (k % size) d ≡ g k
      go (yes e) r len m = rw e (get_or-set_same (circle d size n g) (n % size) (g n) d (omega arith))
      go (no e) r len m = get_or-set_other (circle d size n g) (n % size) (k % size) (g n) d (apart size k n (omega arith) (omega arith))
          ∙ r (omega arith) (omega arith)

  -- with any default: what a program reads of floats has `nan` there
  pub circle_read_any : (e : A) (n : ℕ) (g : ℕ → A) (k : ℕ) → k < n → n ≤ k + size → get_or (circle d size n g) (k % size) e ≡ g k
  circle_read_any e n g k h w =
      let z : 0 < size = omega arith in
      let m = mod-lt k z in
      let len = circle_length n g in
      any_default (circle d size n g) (k % size) e d (omega arith) ∙ circle_read n g k h w

  -- a place not reached yet
  pub circle_blank : (n : ℕ) (g : ℕ → A) (s : ℕ) → n ≤ s → s < size → get_or (circle d size n g) s d ≡ d
  unfolding circle
  circle_blank zero g s h w = get_or-replicate size s d d w
  circle_blank (suc n) g s h w =
      let m : n < size = omega arith in
      let e = mod-eq_of_lt m in
      get_or-set_other (circle d size n g) (n % size) s (g n) d (omega arith) ∙ circle_blank n g s (omega arith) w

  -- each place that was reached has its newest number
  abbrev Newest : ℕ → ℕ → Type 0
  Newest n s = (k : ℕ) × (k < n) × (n ≤ k + size) × (k % size ≡ s)

  newest : (n s : ℕ) → s < size → s < n → Newest n s
  newest zero s w h = absurd (omega arith)
  newest (suc n) s w h = go (ℕ_discrete (n % size) s) (λ l. newest n s w l)
    where
      go : Dec (n % size ≡ s) → (s < n → Newest n s) → Newest (suc n) s
      go (yes e) r = (n, omega arith, omega arith, e)
      go (no e) r = older (dec_lt s n)
        where
          older : Dec (s < n) → Newest (suc n) s
          older (no l) = let m : n ≡ s = omega arith in absurd (e (ap (λ (x : ℕ). x % size) m ∙ mod-eq_of_lt w))
          older (yes l) =
              let o = r l in
              let k : ℕ = o.0 in
              let differ : n ≢ k + size = λ q. e (around size k n q ∙ o.3) in
              (k, omega (arith, o.1), omega (arith, o.2, differ), o.3)

  -- a list is the circle where it reads as it does
  pub circle_is : (n : ℕ) (g : ℕ → A) (l : List A) → length l ≡ size
      → ((k : ℕ) → k < n → n ≤ k + size → get_or l (k % size) d ≡ g k)
      → ((s : ℕ) → n ≤ s → s < size → get_or l s d ≡ d)
      → l ≡ circle d size n g
  circle_is n g l e reads blank =
      ext_get_or d l (circle d size n g) (e ∙ sym (circle_length n g)) (λ s h. go s (subst (λ (x : ℕ). s < x) e h) (dec_lt s n))
    where
      go : (s : ℕ) → s < size → Dec (s < n) → get_or l s d ≡ get_or (circle d size n g) s d
      go s w (no h) = blank s (omega arith) w ∙ sym (circle_blank n g s (omega arith) w)
      go s w (yes h) =
          let o = newest n s w h in
          subst (λ (x : ℕ). get_or l x d ≡ get_or (circle d size n g) x d) o.3 (reads o.0 o.1 o.2 ∙ sym (circle_read n g o.0 o.1 o.2))

  pub circle_same : (n : ℕ) (g g' : ℕ → A) → ((k : ℕ) → k < n → n ≤ k + size → g k ≡ g' k) → circle d size n g ≡ circle d size n g'
  circle_same n g g' same =
      circle_is n g' (circle d size n g) (circle_length n g) (λ k h w. circle_read n g k h w ∙ same k h w) (λ s h w. circle_blank n g s h w)
