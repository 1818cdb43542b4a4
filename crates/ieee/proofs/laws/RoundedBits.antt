-- The bit pattern of a rounded value, in one formula for either format: of q * 2 ^ k units it is k times the weight of the exponent's field, plus q, and no
-- more than the infinity's.
-- A q that was rounded up to 2 ^ prec carries into the field by itself. Before that, `closest` by one test. Assumes nothing.
use Rattle.std.specs.Prelude.{◌≡◌, ℕ, zero, suc, ◌+◌, ◌-◌, ◌*◌, ◌/◌, ◌%◌, ◌^◌, ◌<◌, ◌≤◌, min, Bool, true, false, cond, not, T, ◌⊎◌, ◌==◌, nat_lt, refl, Float}
use Rattle.std.proofs.Common.{sym, ap, ◌∙◌, subst, inl, inr, le_trans, le_of_eq, lt_of_lt_of_le, lt_of_le_of_lt, eq-or-lt_of_le, one-mul, mul_assoc, mul_comm, mul-div_cancel, mul-le-mul_right, le_of_mul-le-mul_right, mul-lt-mul_of_pos_right, mul-pos, div-lt_iff_lt-mul, le-div_iff_mul-le, add_assoc, add-mul, suc-mul, zero-lt-suc, mod-eq_of_lt, arith, leb→le, eqb→eq, ltb→lt, nltb→le, lit≤, pow-add, pow_pos, shl_lt, shr_lt}
use Prim.Native.Nat.{compare, Ordering}
use Rattle.std.proofs.Math.Nat.{pow-succ', div-eq_of_lt}
use Rattle.std.proofs.Math.Dec.{is_le, compare_is_eq, nleb→lt, eqb_refl}
use Rattle.std.proofs.Math.Arith.{lt_of_le-ne}
use Rattle.std.proofs.Math.Pow.{pow-lt}
use Rattle.std.specs.Float.{nan, inf, fin, Format, binary32, binary64}
use Rattle.std.specs.Float.Ieee.{prec, emax, low, down, size, nearest, odd, units, round, hid, ones, top, to_bits}
use Rattle.std.specs.Float.Ieee.Digits.{size-le}
use Rattle.std.specs.Float.Ieee.Fits.{two, down_pos, round_is, nearest-le}
use Rattle.std.specs.Float.Ieee.Exact.{HasValue, odd_sign}
use Rattle.std.specs.Float.Ieee.Nearest.{closest, closest_same, nearest-ge}
use Rattle.ieee.proofs.laws.Numbers.{pow_lt_back, pow_le_back, pow_twice, size_gt}

-- ---- the bits of a value, by its size in units
to_bits_val : (f : Format) (s : Bool) (x : Float) (a : ℕ) → HasValue x s a (2 ^ low f)
    → to_bits f x ≡ cond s (top f) 0 + (size a - prec f) * hid f + a / 2 ^ (size a - prec f)
unfolding to_bits
to_bits_val f s nan a h = absurd h
to_bits_val f s (inf t) a h = absurd h
to_bits_val f s (fin t m e) a h =
    ap (λ (n : ℕ). cond t (top f) 0 + (size n - prec f) * hid f + n / 2 ^ (size n - prec f)) (ap (λ (x : ℕ). x / down e) h.1 ∙ mul-div_cancel a (down_pos e))
    ∙ ap (λ (b : Bool). cond b (top f) 0 + (size a - prec f) * hid f + a / 2 ^ (size a - prec f)) h.0

to_bits_inf : (f : Format) (s : Bool) → to_bits f (inf s) ≡ cond s (top f) 0 + ones f * hid f
unfolding to_bits
to_bits_inf f s = refl

-- ---- q * 2 ^ k units, of which the format keeps q: where k is not 0, q has all the digits
all_kept : (z p k : ℕ) → z ≤ p + k → (0 < k → p - 1 + k < z) → 2 ≤ p → z - p ≡ k
all_kept z p zero h l P = omega arith
all_kept z p (suc k) h l P = let g : p - 1 + suc k < z = l (omega arith) in omega arith

word_lt : (p q k : ℕ) → 2 ≤ p → q < 2 ^ p → (0 < k → 2 ^ (p - 1) ≤ q)
    → (size (q * 2 ^ k) - p) * 2 ^ (p - 1) + q * 2 ^ k / 2 ^ (size (q * 2 ^ k) - p) ≡ k * 2 ^ (p - 1) + q
word_lt p q k P small full =
    let lead : 0 < k → p - 1 + k < size (q * 2 ^ k) =
    λ h. size_gt (q * 2 ^ k) (p - 1 + k) (le_trans (le_of_eq (pow-add 2 (p - 1) k)) (mul-le-mul_right (2 ^ k) (full h))) in
    let z : size (q * 2 ^ k) - p ≡ k = all_kept (size (q * 2 ^ k)) p k (size-le (q * 2 ^ k) (p + k) (shl_lt p k small)) lead P in
    ap (λ (x : ℕ). x * 2 ^ (p - 1) + q * 2 ^ k / 2 ^ x) z ∙ ap (λ (x : ℕ). k * 2 ^ (p - 1) + x) (mul-div_cancel q (pow_pos k))

above_half : (p : ℕ) → 2 ≤ p → 0 < p
above_half p h = omega arith

carry : (k h q : ℕ) → q ≡ 2 * h → suc k * h + h ≡ k * h + q
carry k h q e = let s : suc k * h ≡ k * h + h = suc-mul k h in omega arith

-- a q of 2 ^ p is half as many units of twice the size
word : (p q k : ℕ) → 2 ≤ p → q ≤ 2 ^ p → (0 < k → 2 ^ (p - 1) ≤ q)
    → (size (q * 2 ^ k) - p) * 2 ^ (p - 1) + q * 2 ^ k / 2 ^ (size (q * 2 ^ k) - p) ≡ k * 2 ^ (p - 1) + q
word p q k P small full = go (eq-or-lt_of_le small)
  where
    pre : (p : ℕ) → 2 ≤ p → p - 1 < p
    pre p h = omega arith

    go : (q ≡ 2 ^ p) ⊎ (q < 2 ^ p) → (size (q * 2 ^ k) - p) * 2 ^ (p - 1) + q * 2 ^ k / 2 ^ (size (q * 2 ^ k) - p) ≡ k * 2 ^ (p - 1) + q
    go (inr l) = word_lt p q k P l full
    go (inl e) =
        let h = 2 ^ (p - 1) in
        let t : q ≡ 2 * h = e ∙ pow_twice p (above_half p P) in
        let a : q * 2 ^ k ≡ h * 2 ^ suc k = ap (λ (x : ℕ). x * 2 ^ k) (t ∙ mul_comm 2 h) ∙ mul_assoc h 2 (2 ^ k)
        ∙ ap (λ (x : ℕ). h * x) (sym (pow-succ' 2 k)) in
        ap (λ (x : ℕ). (size x - p) * h + x / 2 ^ (size x - p)) a
        ∙ word_lt p h (suc k) P (pow-lt (pre p P)) (λ _. le_of_eq refl)
        ∙ carry k h q t

-- below the infinity's pattern, as long as the value is below 2 ^ (emax + 1)
under_top : (p m q k : ℕ) → 2 ≤ p → 1 ≤ m → q ≤ 2 ^ p → (0 < k → 2 ^ (p - 1) ≤ q) → q * 2 ^ k < 2 ^ (m + p - 2 + suc m)
    → k * 2 ^ (p - 1) + q ≤ (2 * m + 1) * 2 ^ (p - 1)
under_top p m q k P M small full h =
    let w = 2 ^ (p - 1) in
    let g : k + 2 ≤ 2 * m + 1 = room k full h in
    let a : (k + 2) * w ≤ (2 * m + 1) * w = mul-le-mul_right w g in
    let b : (k + 2) * w ≡ k * w + 2 * w = add-mul k 2 w in
    let t : 2 ^ p ≡ 2 * w = pow_twice p (above_half p P) in
    omega arith
  where
    more : (k : ℕ) → p - 1 + k < m + p - 2 + suc m → k + 2 ≤ 2 * m + 1
    more k h = omega arith

    room : (k : ℕ) → (0 < k → 2 ^ (p - 1) ≤ q) → q * 2 ^ k < 2 ^ (m + p - 2 + suc m) → k + 2 ≤ 2 * m + 1
    room zero f h = omega arith
    room (suc k) f h =
        more (suc k)
        (pow_lt_back (p - 1 + suc k) (m + p - 2 + suc m)
        (lt_of_le_of_lt (le_trans (le_of_eq (pow-add 2 (p - 1) (suc k))) (mul-le-mul_right (2 ^ suc k) (f (zero-lt-suc k)))) h))

-- and from there on no less
over_top : (p m q k : ℕ) → 2 ≤ p → 1 ≤ m → q ≤ 2 ^ p → (0 < k → 2 ^ (p - 1) ≤ q) → 2 ^ (m + p - 2 + suc m) ≤ q * 2 ^ k
    → (2 * m + 1) * 2 ^ (p - 1) ≤ k * 2 ^ (p - 1) + q
over_top p m q k P M small full h =
    let w = 2 ^ (p - 1) in
    let t : 2 ^ p ≡ 2 * w = pow_twice p (above_half p P) in
    let g : 2 * m ≤ k + 1 =
    far k (pow_le_back (m + p - 2 + suc m) (p + k) (le_trans h (le_trans (mul-le-mul_right (2 ^ k) small) (le_of_eq (sym (pow-add 2 p k)))))) in
    let f : w ≤ q = full (pos k g) in
    go (eq-or-lt_of_le g) w t f
  where
    far : (k : ℕ) → m + p - 2 + suc m ≤ p + k → 2 * m ≤ k + 1
    far k h = omega arith

    pos : (k : ℕ) → 2 * m ≤ k + 1 → 0 < k
    pos k h = omega arith

    at : 2 * m ≡ k + 1 → p + k ≡ m + p - 2 + suc m
    at e = omega arith

    one_more : 2 * m < k + 1 → 2 * m ≤ k
    one_more l = omega arith

    go : (2 * m ≡ k + 1) ⊎ (2 * m < k + 1) → (w : ℕ) → 2 ^ p ≡ 2 * w → w ≤ q → (2 * m + 1) * w ≤ k * w + q
    go (inl e) w t f =
        let b : 2 ^ p ≤ q = le_of_mul-le-mul_right (le_trans (le_of_eq (sym (pow-add 2 p k) ∙ ap (λ (x : ℕ). 2 ^ x) (at e))) h) (pow_pos k) in
        let c : (2 * m + 1) * w ≡ k * w + 2 * w = ap (λ (x : ℕ). (x + 1) * w) e ∙ ap (λ (x : ℕ). x * w) (add_assoc k 1 1) ∙ add-mul k 2 w in
        omega arith
    go (inr l) w t f =
        let c : (2 * m + 1) * w ≡ 2 * m * w + w = add-mul (2 * m) 1 w ∙ ap (λ (x : ℕ). 2 * m * w + x) (one-mul w) in
        let d : 2 * m * w ≤ k * w = mul-le-mul_right w (one_more l) in
        omega arith

-- ---- the pattern of what `round` makes
emax_pos : (f : Format) → 1 ≤ emax f
emax_pos binary32 = lit≤ tt
emax_pos binary64 = lit≤ tt

min_l : (a b : ℕ) → a ≤ b → a ≡ min a b
min_l a b h = omega arith

min_r : (a b : ℕ) → b ≤ a → b ≡ min a b
min_r a b h = omega arith

-- a value of q * 2 ^ k units, of which the format keeps q
pub value_bits : (f : Format) (s : Bool) (x : Float) (q k : ℕ) → q ≤ 2 ^ prec f → (0 < k → hid f ≤ q) → HasValue x s (q * 2 ^ k) (2 ^ low f)
    → to_bits f x ≡ cond s (top f) 0 + (k * hid f + q)
value_bits f s x q k small full v = to_bits_val f s x (q * 2 ^ k) v ∙ add_assoc (cond s (top f) 0) _ _
    ∙ ap (λ (n : ℕ). cond s (top f) 0 + n) (word (prec f) q k (two f) small full)

pub units_bits : (f : Format) (s : Bool) (q k : ℕ) → q ≤ 2 ^ prec f → (0 < k → hid f ≤ q)
    → to_bits f (units f s q k) ≡ cond s (top f) 0 + min (k * hid f + q) (ones f * hid f)
unfolding units
units_bits f s q k small full =
    go (nat_lt (q * 2 ^ k) (2 ^ (low f + suc (emax f)))) (ltb→lt (q * 2 ^ k) (2 ^ (low f + suc (emax f)))) (nltb→le (q * 2 ^ k) (2 ^ (low f + suc (emax f))))
  where
    go : (b : Bool) → (T b → q * 2 ^ k < 2 ^ (low f + suc (emax f))) → (T (not b) → 2 ^ (low f + suc (emax f)) ≤ q * 2 ^ k)
        → to_bits f (cond b (odd (suc (prec f)) s q k (low f)) (inf s)) ≡ cond s (top f) 0 + min (k * hid f + q) (ones f * hid f)
    go true l g =
        value_bits f s (odd (suc (prec f)) s q k (low f)) q k small full (odd_sign (suc (prec f)) s q k (low f))
        ∙ ap (λ (x : ℕ). cond s (top f) 0 + x) (min_l _ _ (under_top (prec f) (emax f) q k (two f) (emax_pos f) small full (l tt)))
    go false l g =
        to_bits_inf f s
        ∙ ap (λ (x : ℕ). cond s (top f) 0 + x) (min_r _ _ (over_top (prec f) (emax f) q k (two f) (emax_pos f) small full (g tt)))

-- ---- `closest` by one test: twice the remainder, and one more where the quotient is odd, against the divisor
near_test : (o : Ordering) (q a b : ℕ) → (T (is_le o) → a ≤ b) → (T (not (is_le o)) → b < a) → (T (compare_is_eq o) → a ≡ b) → (a ≡ b → T (compare_is_eq o))
    → ((b < a + q % 2 → nearest q o ≡ q + 1) × (a + q % 2 ≤ b → nearest q o ≡ q))
near_test Ordering.lt q a b h k e n = let l : a < b = lt_of_le-ne (h tt) n in (λ x. omega arith, λ x. refl)
near_test Ordering.eq q a b h k e n = let l : a ≡ b = e tt in (λ x. omega arith, λ x. omega arith)
near_test Ordering.gt q a b h k e n = let l : b < a = k tt in (λ x. omega arith, λ x. omega arith)

pub closest_up : (m u : ℕ) → u < m % u * 2 + m / u % 2 → closest m u ≡ m / u + 1
closest_up m u =
    (near_test (compare (m % u * 2) u) (m / u) (m % u * 2) u (leb→le _ _) (nleb→lt _ _) (eqb→eq _ _)
    (λ (e : m % u * 2 ≡ u). subst (λ (x : ℕ). T (m % u * 2 == x)) e (eqb_refl (m % u * 2)))).0

pub closest_down : (m u : ℕ) → m % u * 2 + m / u % 2 ≤ u → closest m u ≡ m / u
closest_down m u =
    (near_test (compare (m % u * 2) u) (m / u) (m % u * 2) u (leb→le _ _) (nleb→lt _ _) (eqb→eq _ _)
    (λ (e : m % u * 2 ≡ u). subst (λ (x : ℕ). T (m % u * 2 == x)) e (eqb_refl (m % u * 2)))).1

-- what is less than half of the divisor goes to 0
pub closest_small : (m u : ℕ) → m * 2 < u → closest m u ≡ 0
closest_small m u h =
    let l : m < u = half m u h in
    let q : m / u ≡ 0 = div-eq_of_lt l in
    let r : m % u ≡ m = mod-eq_of_lt l in
    closest_down m u (rw (q, r) (omega arith)) ∙ q
  where
    half : (m u : ℕ) → m * 2 < u → m < u
    half m u h = omega arith

-- `round` by its number of dropped digits
pub round_at : (f : Format) (s : Bool) (num den k : ℕ) → size (num * 2 ^ low f / den) - prec f ≡ k
    → round f s num den ≡ units f s (closest (num * 2 ^ low f) (den * 2 ^ k)) k
round_at f s num den k e = round_is f s num den ∙ ap (λ (k : ℕ). units f s (closest (num * 2 ^ low f) (den * 2 ^ k)) k) e

-- ---- m * 2 ^ y / 2 ^ l rounded: r digits of m are dropped, and k is how far the exponent is above the lowest
module _ (f : Format) (m y l k r : ℕ) (place : y + low f + r ≡ l + k) (hi : m < 2 ^ (prec f + r)) (lo : 0 < k → 2 ^ (prec f - 1 + r) ≤ m) where
  whole : m * 2 ^ y * 2 ^ low f ≡ m * 2 ^ (y + low f)
  whole = mul_assoc m (2 ^ y) (2 ^ low f) ∙ ap (λ (x : ℕ). m * x) (sym (pow-add 2 y (low f)))

  reach : (a : ℕ) → a + r + (y + low f) ≡ a + k + l
  reach a = omega arith

  dropped : size (m * 2 ^ y * 2 ^ low f / 2 ^ l) - prec f ≡ k
  dropped =
      let n = m * 2 ^ y * 2 ^ low f in
      let p = prec f in
      let cross : (a : ℕ)
      → 2 ^ (a + r) * 2 ^ (y + low f) ≡ 2 ^ (a + k) * 2 ^ l = λ a. sym (pow-add 2 (a + r) (y + low f)) ∙ ap (λ (x : ℕ). 2 ^ x) (reach a)
      ∙ pow-add 2 (a + k) l in
      let up : n < 2 ^ (p + k) * 2 ^ l =
      lt_of_le_of_lt (le_of_eq whole) (lt_of_lt_of_le (mul-lt-mul_of_pos_right hi (pow_pos (y + low f))) (le_of_eq (cross p))) in
      let down : 0 < k
      → 2 ^ (p - 1 + k) * 2 ^ l ≤ n =
      λ h. le_trans (le_of_eq (sym (cross (p - 1)))) (le_trans (mul-le-mul_right (2 ^ (y + low f)) (lo h)) (le_of_eq (sym whole))) in
      all_kept (size (n / 2 ^ l)) p k (size-le (n / 2 ^ l) (p + k) ((div-lt_iff_lt-mul (pow_pos l)).1 up))
      (λ h. size_gt (n / 2 ^ l) (p - 1 + k) ((le-div_iff_mul-le (pow_pos l)).1 (down h))) (two f)

  kept : closest (m * 2 ^ y * 2 ^ low f) (2 ^ l * 2 ^ k) ≡ closest m (2 ^ r)
  kept =
      ap (λ (x : ℕ). closest x (2 ^ l * 2 ^ k)) whole
      ∙ closest_same (m * 2 ^ (y + low f)) (2 ^ l * 2 ^ k) m (2 ^ r) (mul-pos (pow_pos l) (pow_pos k)) (pow_pos r)
      (mul_assoc m (2 ^ (y + low f)) (2 ^ r) ∙ ap (λ (x : ℕ). m * x) (sym (pow-add 2 (y + low f) r) ∙ ap (λ (x : ℕ). 2 ^ x) place ∙ pow-add 2 l k))

  kept_le : closest m (2 ^ r) ≤ 2 ^ prec f
  kept_le = le_trans (nearest-le (m / 2 ^ r) (compare (m % 2 ^ r * 2) (2 ^ r))) (shr_lt (prec f) r hi)

  kept_ge : 0 < k → hid f ≤ closest m (2 ^ r)
  kept_ge h =
      le_trans ((le-div_iff_mul-le (pow_pos r)).1 (le_trans (le_of_eq (sym (pow-add 2 (prec f - 1) r))) (lo h)))
      (nearest-ge (m / 2 ^ r) (compare (m % 2 ^ r * 2) (2 ^ r)))

  pub round_units : (s : Bool) → round f s (m * 2 ^ y) (2 ^ l) ≡ units f s (closest m (2 ^ r)) k
  round_units s = round_at f s (m * 2 ^ y) (2 ^ l) k dropped ∙ ap (λ (q : ℕ). units f s q k) kept

  pub round_bits : (s : Bool) → to_bits f (round f s (m * 2 ^ y) (2 ^ l)) ≡ cond s (top f) 0 + min (k * hid f + closest m (2 ^ r)) (ones f * hid f)
  round_bits s =
      ap (to_bits f) (round_units s)
      ∙ units_bits f s (closest m (2 ^ r)) k kept_le kept_ge
