-- Floats with no NaN and no sign bit, `Plain`, have the order of numbers: by their key, strict, total and transitive, and equal ones are identical. Sums and
-- squares are such floats. Assumes nothing.
use Rattle.std.specs.Prelude.{◌≡◌, ℕ, zero, suc, ◌+◌, ◌-◌, ◌*◌, ◌/◌, ◌%◌, ◌^◌, ◌<◌, ◌≤◌, Bool, true, false, cond, not, ◌&&◌, ◌||◌, T, ℤ, pos, negsuc, ◌==◌, nat_le, nat_lt, refl, Float}
use Rattle.std.proofs.Common.{ap, sym, ◌∙◌, subst, mul_assoc, mul_comm, mul_right_comm, mul-one, one-mul, div-one, mul-div_cancel, mul-le-mul_right, mul-lt-mul_of_pos_right, lt_of_mul-lt-mul_right, le_of_mul-le-mul_right, mul-pos, arith, leb→le, ltb→lt, eqb→eq, pow-add, pow_pos, ltb-true, ltb-false, lt-ltb, le-ltb}
use Rattle.std.specs.Bool.{beq}
use Prim.Native.Nat.{compare}
use Rattle.std.proofs.Math.Nat.{eq_of_mul-eq-mul_right}
use Rattle.std.specs.Float.{nan, inf, fin, Format}
use Rattle.std.specs.Float.Ieee.{prec, emax, low, up, down, lt, eq, add, mul, sum, round, units, odd, fits, to_bits, of_bits, is_nan, size, hid, nearest}
use Rattle.std.specs.Float.Ieee.Bits.{of_bits-to_bits}
use Rattle.std.specs.Float.Ieee.Fits.{and_l, and_r, up_pos, down_pos}
use Rattle.ieee.specs.Plain.{sign_clear, Plain, key}
use Rattle.ieee.proofs.laws.Numbers.{pow_le_back}

exact : (x l : ℕ) (e : ℤ) → down e ≤ 2 ^ l → x * 2 ^ l / down e * down e ≡ x * 2 ^ l
exact x l (pos k) h = rw (div-one, mul-one)
exact x l (negsuc k) h =
    let d = suc k in
    let le = pow_le_back d l h in
    let split : 2 ^ l ≡ 2 ^ (l - d) * 2 ^ d = ap (λ (n : ℕ). 2 ^ n) (let q : l ≡ l - d + d = omega arith in q) ∙ pow-add 2 (l - d) d in
    let whole : x * 2 ^ l ≡ x * 2 ^ (l - d) * 2 ^ d = ap (λ (n : ℕ). x * n) split ∙ sym (mul_assoc x (2 ^ (l - d)) (2 ^ d)) in
    ap (λ (n : ℕ). n / 2 ^ d * 2 ^ d) whole ∙ ap (λ (n : ℕ). n * 2 ^ d) (mul-div_cancel (x * 2 ^ (l - d)) (pow_pos d)) ∙ sym whole

down_small : (f : Format) (s : Bool) (m : ℕ) (e : ℤ) → T (fits f (fin s m e)) → down e ≤ 2 ^ low f
unfolding fits
down_small f s zero e t =
    let p = eqb→eq (up e * down e) 1 t in
    let u = up_pos e in
    let v = mul-le-mul_right (down e) u in
    let w = pow_pos (low f) in
    let o = one-mul (down e) in
    omega arith
down_small f s (suc m) e t =
    leb→le (down e) (2 ^ low f)
    (and_r (suc m % 2 == 1 && nat_lt (suc m) (2 ^ prec f)) (nat_le (down e) (2 ^ low f))
    (and_l (suc m % 2 == 1 && nat_lt (suc m) (2 ^ prec f) && nat_le (down e) (2 ^ low f)) (nat_lt (suc m * up e) (2 ^ suc (emax f) * down e)) t))

under : (f : Format) (s : Bool) (m : ℕ) (e : ℤ) → T (fits f (fin s m e)) → m * up e < 2 ^ suc (emax f) * down e
unfolding fits
under f s zero e t =
    let z : 0 * up e ≡ 0 = omega arith in
    subst (λ (n : ℕ). n < 2 ^ suc (emax f) * down e) (sym z) (mul-pos (pow_pos (suc (emax f))) (down_pos e))
under f s (suc m) e t =
    ltb→lt (suc m * up e) (2 ^ suc (emax f) * down e)
    (and_r (suc m % 2 == 1 && nat_lt (suc m) (2 ^ prec f) && nat_le (down e) (2 ^ low f)) (nat_lt (suc m * up e) (2 ^ suc (emax f) * down e)) t)

-- comparing after scaling
scaled : (a b k l d p : ℕ) → 0 < d → 0 < p → a * p ≡ k * d → b * p ≡ l * d → nat_lt a b ≡ nat_lt k l
scaled a b k l d p dp pp x y = go (nat_lt k l) refl
  where
    go : (t : Bool) → nat_lt k l ≡ t → nat_lt a b ≡ t
    go true e =
        let h = mul-lt-mul_of_pos_right (ltb-true k l e) dp in
        lt-ltb a b (lt_of_mul-lt-mul_right p (let q : a * p < b * p = omega arith in q))
    go false e =
        let h = mul-le-mul_right d (ltb-false k l e) in
        le-ltb a b (le_of_mul-le-mul_right (let q : b * p ≤ a * p = omega arith in q) pp)

key_exact : (f : Format) (s : Bool) (m : ℕ) (e : ℤ) → T (fits f (fin s m e)) → key f (fin s m e) * down e ≡ m * up e * 2 ^ low f
key_exact f s m e t = exact (m * up e) (low f) e (down_small f s m e t)

-- over a common denominator
over : (f : Format) (s : Bool) (m : ℕ) (e d : ℤ) → T (fits f (fin s m e)) → m * up e * down d * 2 ^ low f ≡ key f (fin s m e) * (down e * down d)
over f s m e d x = mul_right_comm (m * up e) (down d) (2 ^ low f) ∙ ap (λ (z : ℕ). z * down d) (sym (key_exact f s m e x))
    ∙ mul_assoc (key f (fin s m e)) (down e) (down d)

key_under : (f : Format) (s : Bool) (m : ℕ) (e : ℤ) → T (fits f (fin s m e)) → key f (fin s m e) < 2 ^ suc (emax f) * 2 ^ low f
key_under f s m e t =
    let k = key_exact f s m e t in
    let h = mul-lt-mul_of_pos_right (under f s m e t) (pow_pos (low f)) in
    let c = mul_right_comm (2 ^ suc (emax f)) (down e) (2 ^ low f) in
    lt_of_mul-lt-mul_right (down e) (let q : key f (fin s m e) * down e < 2 ^ suc (emax f) * 2 ^ low f * down e = omega arith in q)

by_size : (f : Format) (a b : Float) → T (sign_clear a) → T (sign_clear b) → T (fits f a) → T (fits f b) → lt a b ≡ nat_lt (key f a) (key f b)
unfolding lt
by_size f nan b p q x y = absurd p
by_size f (inf s) nan p q x y = absurd q
by_size f (inf true) (inf t) p q x y = absurd p
by_size f (inf false) (inf t) p q x y = sym (le-ltb (2 ^ suc (emax f) * 2 ^ low f) (2 ^ suc (emax f) * 2 ^ low f) (omega arith))
by_size f (inf true) (fin t n d) p q x y = absurd p
by_size f (inf false) (fin t n d) p q x y =
    let u = key_under f t n d y in sym (le-ltb (2 ^ suc (emax f) * 2 ^ low f) (key f (fin t n d)) (omega arith))
by_size f (fin s m e) nan p q x y = absurd q
by_size f (fin s m e) (inf true) p q x y = absurd q
by_size f (fin s m e) (inf false) p q x y = sym (lt-ltb (key f (fin s m e)) (2 ^ suc (emax f) * 2 ^ low f) (key_under f s m e x))
by_size f (fin true m e) (fin t n d) p q x y = absurd p
by_size f (fin false m e) (fin true n d) p q x y = absurd q
by_size f (fin false m e) (fin false n d) p q x y =
    scaled (m * up e * down d) (n * up d * down e) (key f (fin false m e)) (key f (fin false n d)) (down e * down d) (2 ^ low f)
    (mul-pos (down_pos e) (down_pos d)) (pow_pos (low f))
    (over f false m e d x)
    (over f false n d e y ∙ ap (λ (z : ℕ). key f (fin false n d) * z) (mul_comm (down d) (down e)))

key_bits : (f : Format) (m n : ℕ) (e d : ℤ) → key f (fin false m e) ≡ key f (fin false n d) → to_bits f (fin false m e) ≡ to_bits f (fin false n d)
unfolding to_bits
key_bits f m n e d k = ap (λ (n : ℕ). 0 + (size n - prec f) * hid f + n / 2 ^ (size n - prec f)) k

same_size : (f : Format) (a b : Float) → T (sign_clear a) → T (sign_clear b) → T (fits f a) → T (fits f b) → key f a ≡ key f b → a ≡ b
same_size f nan b p q x y k = absurd p
same_size f (inf s) nan p q x y k = absurd q
same_size f (inf true) (inf t) p q x y k = absurd p
same_size f (inf false) (inf true) p q x y k = absurd q
same_size f (inf false) (inf false) p q x y k = refl
same_size f (inf s) (fin t n d) p q x y k = let u = key_under f t n d y in absurd (omega arith)
same_size f (fin s m e) nan p q x y k = absurd q
same_size f (fin s m e) (inf t) p q x y k = let u = key_under f s m e x in absurd (omega arith)
same_size f (fin true m e) (fin t n d) p q x y k = absurd p
same_size f (fin false m e) (fin true n d) p q x y k = absurd q
same_size f (fin false m e) (fin false n d) p q x y k =
    sym (of_bits-to_bits f (fin false m e) x) ∙ ap (of_bits f) (key_bits f m n e d k) ∙ of_bits-to_bits f (fin false n d) y

-- ---- the order by keys
module _ (f : Format) (a b : Float) (x : Plain f a) (y : Plain f b) where
  pub lt_key : lt a b ≡ nat_lt (key f a) (key f b)
  lt_key = by_size f a b x.0 y.0 x.1 y.1

  pub same_key : key f a ≡ key f b → a ≡ b
  same_key = same_size f a b x.0 y.0 x.1 y.1

  pub plain_asym : lt a b ≡ true → lt b a ≡ false
  plain_asym h =
      let g = ltb-true (key f a) (key f b) (sym lt_key ∙ h) in
      by_size f b a y.0 x.0 y.1 x.1 ∙ le-ltb (key f b) (key f a) (omega arith)

  -- neither is below the other only where they are identical
  pub plain_total : lt a b ≡ false → lt b a ≡ false → a ≡ b
  plain_total h k =
      let g = ltb-false (key f a) (key f b) (sym lt_key ∙ h) in
      let l = ltb-false (key f b) (key f a) (sym (by_size f b a y.0 x.0 y.1 x.1) ∙ k) in
      same_key (omega arith)

pub plain_irrefl : (f : Format) (a : Float) → Plain f a → lt a a ≡ false
plain_irrefl f a x = lt_key f a a x x ∙ le-ltb (key f a) (key f a) (omega arith)

-- IEEE 754's equality, where there is no sign bit
eq_size : (f : Format) (a b : Float) → T (sign_clear a) → T (sign_clear b) → T (fits f a) → T (fits f b) → eq a b ≡ true → key f a ≡ key f b
unfolding eq
eq_size f nan b p q x y e = absurd p
eq_size f (inf s) nan p q x y e = absurd q
eq_size f (inf s) (inf t) p q x y e = refl
eq_size f (inf s) (fin t n d) p q x y e = absurd (subst T (sym e) tt)
eq_size f (fin s m e) nan p q x y h = absurd q
eq_size f (fin s m e) (inf t) p q x y h = absurd (subst T (sym h) tt)
eq_size f (fin s m e) (fin t n d) p q x y h =
    let a = m * up e * down d in
    let b = n * up d * down e in
    let g : a ≡ b = eqb→eq a b (and_l (a == b) (beq s t || a == 0) (subst T (sym h) tt)) in
    let D = mul-pos (down_pos e) (down_pos d) in
    eq_of_mul-eq-mul_right (down e * down d) D (key f (fin s m e)) (key f (fin t n d))
    (sym (over f s m e d x) ∙ ap (λ (z : ℕ). z * 2 ^ low f) g ∙ over f t n d e y ∙ ap (λ (z : ℕ). key f (fin t n d) * z) (mul_comm (down d) (down e)))

pub plain_equal : (f : Format) (a b : Float) → Plain f a → Plain f b → eq a b ≡ true → a ≡ b
plain_equal f a b x y e = same_key f a b x y (eq_size f a b x.0 y.0 x.1 y.1 e)

-- ---- what gives such floats

-- a rounded fraction
pub round_clear : (f : Format) (a b : ℕ) → T (sign_clear (round f false a b))
unfolding round units odd
round_clear f a b = go (nat_lt (q * 2 ^ k) (2 ^ (low f + suc (emax f)))) q
  where
    n : ℕ
    n = a * 2 ^ low f

    k : ℕ
    k = size (n / b) - prec f

    q : ℕ
    q = nearest (n / (b * 2 ^ k)) (compare (n % (b * 2 ^ k) * 2) (b * 2 ^ k))

    go : (t : Bool) (q : ℕ) → T (sign_clear (cond t (odd (suc (prec f)) false q k (low f)) (inf false)))
    go true zero = tt
    go true (suc q) = tt
    go false q = tt

-- a square of what is no NaN
pub square_clear : (f : Format) (x : Float) → T (not (is_nan x)) → T (sign_clear (mul f x x))
unfolding mul is_nan
square_clear f nan h = h
square_clear f (inf true) h = tt
square_clear f (inf false) h = tt
square_clear f (fin true m e) h = round_clear f (m * up e * (m * up e)) (down e * down e)
square_clear f (fin false m e) h = round_clear f (m * up e * (m * up e)) (down e * down e)

-- a sum
pub add_clear : (f : Format) (x y : Float) → T (sign_clear x) → T (sign_clear y) → T (sign_clear (add f x y))
unfolding add sum
add_clear f nan y p q = p
add_clear f (inf s) nan p q = q
add_clear f (inf true) (inf t) p q = absurd p
add_clear f (inf false) (inf true) p q = absurd q
add_clear f (inf false) (inf false) p q = tt
add_clear f (inf s) (fin t n d) p q = p
add_clear f (fin s m e) nan p q = q
add_clear f (fin s m e) (inf t) p q = q
add_clear f (fin true m e) (fin t n d) p q = absurd p
add_clear f (fin false m e) (fin true n d) p q = absurd q
add_clear f (fin false m e) (fin false n d) p q = round_clear f (m * up e * down d + n * up d * down e) (down e * down d)
