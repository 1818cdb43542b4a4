-- The square of a number in two words, and what makes it half of a root's digits. Assumes nothing.
use Rattle.std.proofs.Common.{◌≡◌, ℕ, ◌+◌, ◌-◌, ◌*◌, ◌/◌, ◌%◌, ◌^◌, ◌<◌, ◌≤◌, Bool, true, false, not, ◌&&◌, T, ltb, leb, ◌⊎◌, sym, refl, ap, ◌∙◌, inl, inr, mul_assoc, mul_comm, add-mul, mul-le-mul, mul-add, mul_left_comm, arith, leb→le, le-ltb, lt-ltb, le-leb}
use lib.Dec.{nleb→lt}
use borrow.Author.Tests.{lt-leb}
use Rattle.ieee.proofs.laws.Numbers.{le_or_lt, square_even, square_odd, next_square}
use Rattle.ieee.specs.Root.{HalfRoot}

-- ---- g * g, by the upper and the lower digits of g
square_of_sum : (a b c : ℕ) → (a * c + b) * (a * c + b) ≡ a * a * (c * c) + (a * b * c + a * b * c) + b * b
square_of_sum a b c =
    let s = a * c in
    let p : (s + b) * (s + b) ≡ (s + b) * s + (s + b) * b = mul-add (s + b) s b in
    let q : (s + b) * s ≡ s * s + b * s = add-mul s b s in
    let r : (s + b) * b ≡ s * b + b * b = add-mul s b b in
    let t : s * s ≡ a * a * (c * c) = simp (mul_assoc, mul_comm, mul_left_comm) in
    let u : b * s ≡ a * b * c = simp (mul_assoc, mul_comm, mul_left_comm) in
    let v : s * b ≡ a * b * c = simp (mul_assoc, mul_comm, mul_left_comm) in
    omega arith

pub record Square (g : ℕ) : Type 0 where
  pub upper : g / 2 ^ 26 * (g / 2 ^ 26) ≤ 2 ^ 54
  pub mixed : g / 2 ^ 26 * (g % 2 ^ 26) ≤ 2 ^ 53
  pub lower : g % 2 ^ 26 * (g % 2 ^ 26) ≤ 2 ^ 52
  pub whole : g * g
      ≡ (g / 2 ^ 26 * (g / 2 ^ 26) + g / 2 ^ 26 * (g % 2 ^ 26) / 2 ^ 25) * 2 ^ 52 + (g / 2 ^ 26 * (g % 2 ^ 26) % 2 ^ 25 * 2 ^ 27 + g % 2 ^ 26 * (g % 2 ^ 26))

pub square : (g : ℕ) → g < 2 ^ 53 → Square g
square g h =
    let a = g / 2 ^ 26 in
    let b = g % 2 ^ 26 in
    let A : a ≤ 2 ^ 27 = omega arith in
    let B : b ≤ 2 ^ 26 = omega arith in
    let e : g ≡ a * 2 ^ 26 + b = omega arith in
    let s : g * g ≡ a * a * 2 ^ 52 + (a * b * 2 ^ 26 + a * b * 2 ^ 26) + b * b = ap (λ (n : ℕ). n * n) e ∙ square_of_sum a b (2 ^ 26) in
    record {
      upper = mul-le-mul A A;
      mixed = mul-le-mul A B;
      lower = mul-le-mul B B;
      whole = s ∙ joined (a * a) (a * b) (b * b);
    }
  where
    joined : (x y z : ℕ) → x * 2 ^ 52 + (y * 2 ^ 26 + y * 2 ^ 26) + z ≡ (x + y / 2 ^ 25) * 2 ^ 52 + (y % 2 ^ 25 * 2 ^ 27 + z)
    joined x y z = omega arith

-- ---- the test of g, whose square is high * 2 ^ 52 + low, by its answers
none : (t : Bool) → false ≡ (t && false)
none true = refl
none false = refl

too_large : (w g : ℕ) → w * 2 ^ 42 + g ≤ g * g → false ≡ (ltb (g * g) (w * 2 ^ 42 + g) && leb (w * 2 ^ 42) (g * g + g))
too_large w g h = ap (λ (t : Bool). t && leb (w * 2 ^ 42) (g * g + g)) (sym (le-ltb (g * g) (w * 2 ^ 42 + g) h))

too_small : (w g : ℕ) → g * g + g < w * 2 ^ 42 → false ≡ (ltb (g * g) (w * 2 ^ 42 + g) && leb (w * 2 ^ 42) (g * g + g))
too_small w g h = none (ltb (g * g) (w * 2 ^ 42 + g)) ∙ ap (λ (t : Bool). ltb (g * g) (w * 2 ^ 42 + g) && t) (sym (lt-leb (w * 2 ^ 42) (g * g + g) h))

module _ (w g high low : ℕ) (small : g < 2 ^ 53) (is : g * g ≡ high * 2 ^ 52 + low) where
  pub far_above : w / 1024 + 2 < high → false ≡ (ltb (g * g) (w * 2 ^ 42 + g) && leb (w * 2 ^ 42) (g * g + g))
  far_above h = too_large w g (omega arith)

  pub far_below : low < 2 ^ 53 → high + 3 < w / 1024 → false ≡ (ltb (g * g) (w * 2 ^ 42 + g) && leb (w * 2 ^ 42) (g * g + g))
  far_below l h = too_small w g (omega arith)

  module _ (above : ℕ) (near : high ≤ w / 1024 + 2) (more : above ≡ (w / 1024 + 2 - high) * 2 ^ 52 + w % 1024 * 2 ^ 42) where
    pub not_below : above + g ≤ low + 2 ^ 53 → false ≡ (ltb (g * g) (w * 2 ^ 42 + g) && leb (w * 2 ^ 42) (g * g + g))
    not_below h = too_large w g (omega arith)

    pub decided : low + 2 ^ 53 < above + g → leb above (low + 2 ^ 53 + g) ≡ (ltb (g * g) (w * 2 ^ 42 + g) && leb (w * 2 ^ 42) (g * g + g))
    decided h =
        let l : g * g < w * 2 ^ 42 + g = omega arith in
        go (leb above (low + 2 ^ 53 + g)) (leb→le above (low + 2 ^ 53 + g)) (nleb→lt above (low + 2 ^ 53 + g))
        ∙ ap (λ (t : Bool). t && leb (w * 2 ^ 42) (g * g + g)) (sym (lt-ltb (g * g) (w * 2 ^ 42 + g) l))
      where
        go : (t : Bool) → (T t → above ≤ low + 2 ^ 53 + g) → (T (not t) → low + 2 ^ 53 + g < above) → t ≡ leb (w * 2 ^ 42) (g * g + g)
        go true p q = let k = p tt in sym (le-leb (w * 2 ^ 42) (g * g + g) (omega arith))
        go false p q = let k = q tt in sym (lt-leb (w * 2 ^ 42) (g * g + g) (omega arith))

-- ---- what passes it: the digits are twice g, or one less
pub half_of : (w g : ℕ) → g * g < w * 2 ^ 42 + g → w * 2 ^ 42 ≤ g * g + g → HalfRoot w g
half_of w g lo hi = go (le_or_lt (g * g) (w * 2 ^ 42))
  where
    go : (g * g ≤ w * 2 ^ 42) ⊎ (w * 2 ^ 42 < g * g) → HalfRoot w g
    go (inl h) =
        let e = square_even g in
        let o = square_odd g in
        record { R = g * 2; low = omega arith; high = omega arith; half = omega arith }
    go (inr h) =
        let p = g - 1 in
        let s : g ≡ p + 1 = omega arith in
        let q : g * g ≡ p * p + 2 * p + 1 = ap (λ (n : ℕ). n * n) s ∙ next_square p in
        let o = square_odd p in
        let n = next_square (p * 2 + 1) in
        record { R = p * 2 + 1; low = omega arith; high = omega arith; half = omega arith }
