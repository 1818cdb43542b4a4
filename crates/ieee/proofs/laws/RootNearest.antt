-- What `rooted` means: of all values of binary64 it is the one nearest to the root, and no other is as near. Assumes nothing.
-- There are no real numbers here. In units of the smallest value let r be the root rounded, v another value, and X the square of the root, which for a number
-- of a units is a * 2 ^ 1074.
-- √X is nearer to r than to v exactly when it lies on r's side of the middle (r + v) / 2, that is when 4 * X lies on r's side of (r + v) ^ 2.
use Rattle.std.specs.Prelude.{◌≡◌, ℕ, zero, suc, ◌+◌, ◌-◌, ◌*◌, ◌/◌, ◌%◌, ◌^◌, ◌<◌, ◌≤◌, Bool, false, not, T, ◌⊎◌, ◌≢◌, to_bits, refl, Float}
use Rattle.std.proofs.Common.{sym, ap, ◌∙◌, subst, inl, inr, le_trans, le_of_eq, le_of_lt, lt_of_lt_of_le, lt_of_le_of_lt, mul_assoc, mul_left_comm, mul_right_comm, mul-le-mul, mul-le-mul_right, mul-lt-mul_of_pos_right, lt_of_mul-lt-mul_right, mul-pos, add-mul, add-le-add, le_of_mul-le-mul_right, mul-add, mod-lt, lt_irrefl, zero-mul, zero-lt-suc, arith, pow-add, pow_pos, pow_mono, shl_lt}
use Rattle.std.proofs.Math.Nat.{mul-mul-mul_comm, eq_of_mul-eq-mul_right}
use Rattle.std.proofs.Math.Arith.{lt_of_le-ne}
use Rattle.std.specs.Float.{nan, inf, fin, binary64}
use Rattle.std.specs.Float.Ieee.{up, down, round, fits, is_nan}
use Rattle.std.specs.Float.Ieee.Fits.{down_pos, round-fits}
use Rattle.std.specs.Float.Ieee.Exact.{HasValue, round_exact}
use Rattle.ieee.specs.Bound.{Within, Value}
use Rattle.ieee.specs.Root.{isqrt, rooted}
use Rattle.ieee.specs.Normal.{significand_of}
use Rattle.ieee.proofs.laws.Numbers.{pow_lt_back, pow_split, le_or_lt, square_lt, square_mono, square_odd, split_half}
use Rattle.ieee.proofs.laws.Bounds.{within_of_value}
use Rattle.ieee.proofs.laws.Fields.{Meaning, meaning}
use Rattle.ieee.proofs.laws.NormalLaws.{even_of, evened}
use Rattle.ieee.proofs.laws.RootValue.{isqrt_is, rooted_value, root_units, R-low}

-- ---- the values next to q * 2 ^ k, where q has 53 digits
gap_above : (q k n j : ℕ) → n < 2 ^ 53 → 2 ^ 52 ≤ q → q * 2 ^ k < n * 2 ^ j → (q + 1) * 2 ^ k ≤ n * 2 ^ j
gap_above q k n j N Q h =
    let l : 52 + k < 53 + j =
    pow_lt_back (52 + k) (53 + j)
    (lt_of_le_of_lt (le_trans (le_of_eq (pow-add 2 52 k)) (mul-le-mul_right (2 ^ k) Q)) (lt_of_lt_of_le h (le_of_lt (shl_lt 53 j N)))) in
    let e : n * 2 ^ (j - k) * 2 ^ k ≡ n * 2 ^ j = pow_split n j k (omega arith) in
    let s : q < n * 2 ^ (j - k) = lt_of_mul-lt-mul_right (2 ^ k) (lt_of_lt_of_le h (le_of_eq (sym e))) in
    le_trans (mul-le-mul_right (2 ^ k) (omega arith)) (le_of_eq e)

gap_below : (q k n j : ℕ) → n < 2 ^ 53 → 2 ^ 52 < q → n * 2 ^ j < q * 2 ^ k → n * 2 ^ j ≤ (q - 1) * 2 ^ k
gap_below q k n j N Q h = go (le_or_lt k j)
  where
    go : (k ≤ j) ⊎ (j < k) → n * 2 ^ j ≤ (q - 1) * 2 ^ k
    go (inl l) =
        let e : n * 2 ^ (j - k) * 2 ^ k ≡ n * 2 ^ j = pow_split n j k l in
        let s : n * 2 ^ (j - k) < q = lt_of_mul-lt-mul_right (2 ^ k) (lt_of_le_of_lt (le_of_eq e) h) in
        le_trans (le_of_eq (sym e)) (mul-le-mul_right (2 ^ k) (omega arith))
    go (inr l) =
        le_trans (le_of_lt (shl_lt 53 j N))
        (le_trans (pow_mono {i = 53 + j} {j = 52 + k} (omega arith)) (le_trans (le_of_eq (pow-add 2 52 k)) (mul-le-mul_right (2 ^ k) (omega arith))))

odd_square : (R N : ℕ) → R ≡ R / 2 * 2 + 1 → N % 2 ≡ 0 → R * R ≢ N
odd_square R N k e h =
    let s : R * R ≡ 4 * (R / 2 * (R / 2)) + 4 * (R / 2) + 1 = ap (λ (x : ℕ). x * x) k ∙ square_odd (R / 2) in
    omega arith

-- ---- N is the square of twice the root in units of 2 ^ k: 4 * X ≡ N * (2 ^ k * 2 ^ k), and R is √N cut, which has 54 digits
module _ (N R k X : ℕ) (low : 2 ^ 53 ≤ R) (lo : R * R ≤ N) (hi : N < (R + 1) * (R + 1)) (even : N % 2 ≡ 0) (scale : 4 * X ≡ N * (2 ^ k * 2 ^ k)) (n j : ℕ)
    (small : n < 2 ^ 53) where
  P : 0 < 2 ^ k * 2 ^ k
  P = mul-pos (pow_pos k) (pow_pos k)

  square : (a : ℕ) → a * 2 ^ k * (a * 2 ^ k) ≡ a * a * (2 ^ k * 2 ^ k)
  square a = mul-mul-mul_comm a (2 ^ k) a (2 ^ k)

  -- half of R, rounded up
  half : 2 ^ 52 ≤ (R + 1) / 2
  half = omega arith

  pub above : (R + 1) / 2 * 2 ^ k < n * 2 ^ j → 4 * X < ((R + 1) / 2 * 2 ^ k + n * 2 ^ j) * ((R + 1) / 2 * 2 ^ k + n * 2 ^ j)
  above h =
      let q = (R + 1) / 2 in
      let g : (q + 1) * 2 ^ k ≤ n * 2 ^ j = gap_above q k n j small half h in
      let s : (R + 1) * 2 ^ k ≤ q * 2 ^ k + n * 2 ^ j =
      le_trans (mul-le-mul_right {m = R + 1} {n = q + (q + 1)} (2 ^ k) (omega arith))
      (le_trans (le_of_eq (add-mul q (q + 1) (2 ^ k))) (add-le-add (le_of_eq refl) g)) in
      lt_of_lt_of_le (lt_of_le_of_lt (le_of_eq scale) (lt_of_lt_of_le (mul-lt-mul_of_pos_right hi P) (le_of_eq (sym (square (R + 1)))))) (mul-le-mul s s)

  pub below : n * 2 ^ j < (R + 1) / 2 * 2 ^ k → ((R + 1) / 2 * 2 ^ k + n * 2 ^ j) * ((R + 1) / 2 * 2 ^ k + n * 2 ^ j) < 4 * X
  below h = go (split_half R)
    where
      go : (R ≡ R / 2 * 2) ⊎ (R ≡ R / 2 * 2 + 1) → ((R + 1) / 2 * 2 ^ k + n * 2 ^ j) * ((R + 1) / 2 * 2 ^ k + n * 2 ^ j) < 4 * X
      go (inl e) =
          let d : (R + 1) / 2 * 2 ^ k + (R + 1) / 2 * 2 ^ k ≡ R * 2 ^ k = sym (add-mul ((R + 1) / 2) ((R + 1) / 2) (2 ^ k))
          ∙ ap (λ (x : ℕ). x * 2 ^ k) (omega arith) in
          let s : (R + 1) / 2 * 2 ^ k + n * 2 ^ j < R * 2 ^ k = omega arith in
          lt_of_lt_of_le (square_mono _ _ s) (le_trans (le_of_eq (square R)) (le_trans (mul-le-mul_right (2 ^ k * 2 ^ k) lo) (le_of_eq (sym scale))))
      go (inr e) =
          let g : n * 2 ^ j ≤ ((R + 1) / 2 - 1) * 2 ^ k = gap_below ((R + 1) / 2) k n j small (omega arith) h in
          let d : (R + 1) / 2 * 2 ^ k + ((R + 1) / 2 - 1) * 2 ^ k ≡ R * 2 ^ k = sym (add-mul ((R + 1) / 2) ((R + 1) / 2 - 1) (2 ^ k))
          ∙ ap (λ (x : ℕ). x * 2 ^ k) (omega arith) in
          let s : (R + 1) / 2 * 2 ^ k + n * 2 ^ j ≤ R * 2 ^ k = omega arith in
          lt_of_le_of_lt (mul-le-mul s s)
          (lt_of_le_of_lt (le_of_eq (square R))
          (lt_of_lt_of_le (mul-lt-mul_of_pos_right (lt_of_le-ne lo (odd_square R N e even)) P) (le_of_eq (sym scale))))

-- ---- the floats
pub value_unique : (x : Float) (s t : Bool) (a b c : ℕ) → 0 < c → HasValue x s a c → HasValue x t b c → a ≡ b
value_unique nan s t a b c C h k = absurd h
value_unique (inf u) s t a b c C h k = absurd h
value_unique (fin u m e) s t a b c C h k = eq_of_mul-eq-mul_right (down e) (down_pos e) a b (sym h.1 ∙ k.1)

pub no_nan_value : (x : Float) (s : Bool) (a c : ℕ) → HasValue x s a c → T (not (is_nan x))
unfolding is_nan
no_nan_value nan s a c h = absurd h
no_nan_value (inf t) s a c h = absurd h
no_nan_value (fin t m e) s a c h = tt

-- a value in units is n * 2 ^ j with n of 53 digits at most
pub in_units : (x : Float) (s : Bool) (a : ℕ) → T (fits binary64 x) → HasValue x s a (2 ^ 1074)
    → (n : ℕ) × (j : ℕ) × (n < 2 ^ 53) × (j ≤ 2045) × (a ≡ n * 2 ^ j)
in_units x s a F v = go _ _ _ (mod-lt (to_bits binary64 x) (pow_pos 52)) (meaning x F (no_nan_value x s a (2 ^ 1074) v))
  where
    go : (u : Bool) (e t : ℕ) → t < 2 ^ 52 → Meaning x u e t → (n : ℕ) × (j : ℕ) × (n < 2 ^ 53) × (j ≤ 2045) × (a ≡ n * 2 ^ j)
    go u e t h (inl w) = (
      significand_of e t,
      e - 1,
      omega arith,
      let l = w.0 in
          omega arith,
      value_unique x s u a (significand_of e t * 2 ^ (e - 1)) (2 ^ 1074) (pow_pos 1074) v w.1,
    )
    go u e t h (inr w) = absurd (subst (λ (z : Float). HasValue z s a (2 ^ 1074)) w.2 v)

first_pos : (m u : ℕ) → 0 < m * u → 0 < m
first_pos zero u h = absurd (lt_irrefl 0 (subst (λ (x : ℕ). 0 < x) (zero-mul u) h))
first_pos (suc m) u h = zero-lt-suc m

even_word : (w : ℕ) → w * 2 ^ 44 % 2 ≡ 0
even_word w = omega arith

-- both sides are m times a power of two
scaled : (m i c h : ℕ) → i + 84 ≡ c + 2 * h → 4 * (m * 2 ^ i * 2 ^ 1074) ≡ m * 2 ^ c * 2 ^ 44 * (2 ^ (474 + h) * 2 ^ (474 + h))
scaled m i c h e =
    mul_left_comm 4 (m * 2 ^ i) (2 ^ 1074)
    ∙ mul_assoc m (2 ^ i) (2 ^ 1076)
    ∙ ap (λ (x : ℕ). m * x)
    (sym (pow-add 2 i 1076) ∙ ap (λ (x : ℕ). 2 ^ x) sum ∙ pow-add 2 (c + 44) (474 + h + (474 + h))
    ∙ ap (λ (x : ℕ). x * 2 ^ (474 + h + (474 + h))) (pow-add 2 c 44) ∙ ap (λ (x : ℕ). 2 ^ c * 2 ^ 44 * x) (pow-add 2 (474 + h) (474 + h)))
    ∙ sym (mul_assoc m (2 ^ c * 2 ^ 44) (2 ^ (474 + h) * 2 ^ (474 + h)))
    ∙ ap (λ (x : ℕ). x * (2 ^ (474 + h) * 2 ^ (474 + h))) (sym (mul_assoc m (2 ^ c) (2 ^ 44)))
  where
    sum : i + 1076 ≡ c + 44 + (474 + h + (474 + h))
    sum = omega arith

pub rooted_nearest : (x y : Float) (a v r : ℕ) → T (fits binary64 x) → T (fits binary64 y) → 0 < a
    → HasValue x false a (2 ^ 1074) → HasValue y false v (2 ^ 1074) → HasValue (rooted x) false r (2 ^ 1074)
    → (r < v → 4 * (a * 2 ^ 1074) < (r + v) * (r + v)) × (v < r → (r + v) * (r + v) < 4 * (a * 2 ^ 1074))
rooted_nearest x y a v r F G A hx hy hr = go (in_units x false a F hx) (in_units y false v G hy)
  where
    go : (n : ℕ) × (j : ℕ) × (n < 2 ^ 53) × (j ≤ 2045) × (a ≡ n * 2 ^ j) → (n : ℕ) × (j : ℕ) × (n < 2 ^ 53) × (j ≤ 2045) × (v ≡ n * 2 ^ j)
        → (r < v → 4 * (a * 2 ^ 1074) < (r + v) * (r + v)) × (v < r → (r + v) * (r + v) < 4 * (a * 2 ^ 1074))
    go (m, i, M, I, p) (n, j, N, J, q) =
        let z = evened m i (first_pos m (2 ^ i) (subst (λ (x : ℕ). 0 < x) p A)) M in
        let c = even_of m i in
        let h = (i + 84 - c) / 2 in
        let place : i + 84 ≡ c + 2 * h = omega arith in
        let W = m * 2 ^ c * 2 ^ 44 in
        let R = isqrt W in
        let s = isqrt_is W in
        let k = 474 + h in
        let is-r : r ≡ (R + 1) / 2 * 2 ^ k =
        value_unique (rooted x) false false r ((R + 1) / 2 * 2 ^ k) (2 ^ 1074) (pow_pos 1074) hr
        (subst (λ (f : Float). HasValue f false ((R + 1) / 2 * 2 ^ k) (2 ^ 1074))
        (sym (rooted_value x a A hx ∙ ap (λ (b : ℕ). round binary64 false (2 * isqrt (b * 4 ^ 64) + 1) (2 ^ 602)) p))
        (root_units m i c h R z.low z.high place s.0 s.1 (omega arith))) in
        let scale : 4 * (a * 2 ^ 1074) ≡ W * (2 ^ k * 2 ^ k) = ap (λ (b : ℕ). 4 * (b * 2 ^ 1074)) p ∙ scaled m i c h place in
        let lo = R-low m i c h R z.low z.high place s.0 s.1 in (
          λ g. subst (λ (b : ℕ). 4 * (a * 2 ^ 1074) < (r + b) * (r + b)) (sym q)
              (subst (λ (b : ℕ). 4 * (a * 2 ^ 1074) < (b + n * 2 ^ j) * (b + n * 2 ^ j)) (sym is-r)
              (above W R k (a * 2 ^ 1074) lo s.0 s.1 (even_word (m * 2 ^ c)) scale n j N
              (subst (λ (b : ℕ). b < n * 2 ^ j) is-r (subst (λ (b : ℕ). r < b) q g)))),
          λ g. subst (λ (b : ℕ). (r + b) * (r + b) < 4 * (a * 2 ^ 1074)) (sym q)
              (subst (λ (b : ℕ). (b + n * 2 ^ j) * (b + n * 2 ^ j) < 4 * (a * 2 ^ 1074)) (sym is-r)
              (below W R k (a * 2 ^ 1074) lo s.0 s.1 (even_word (m * 2 ^ c)) scale n j N
              (subst (λ (b : ℕ). n * 2 ^ j < b) is-r (subst (λ (b : ℕ). b < r) q g)))),
        )

-- and it is a number: finite, and not negative
pub rooted_finite : (x : Float) (a : ℕ) → T (fits binary64 x) → 0 < a → HasValue x false a (2 ^ 1074) → (r : ℕ) × HasValue (rooted x) false r (2 ^ 1074)
rooted_finite x a F A hx = go (in_units x false a F hx)
  where
    go : (n : ℕ) × (j : ℕ) × (n < 2 ^ 53) × (j ≤ 2045) × (a ≡ n * 2 ^ j) → (r : ℕ) × HasValue (rooted x) false r (2 ^ 1074)
    go (m, i, M, I, p) =
        let z = evened m i (first_pos m (2 ^ i) (subst (λ (x : ℕ). 0 < x) p A)) M in
        let c = even_of m i in
        let h = (i + 84 - c) / 2 in
        let place : i + 84 ≡ c + 2 * h = omega arith in
        let R = isqrt (m * 2 ^ c * 2 ^ 44) in
        let s = isqrt_is (m * 2 ^ c * 2 ^ 44) in (
          (R + 1) / 2 * 2 ^ (474 + h),
          subst (λ (f : Float). HasValue f false ((R + 1) / 2 * 2 ^ (474 + h)) (2 ^ 1074))
              (sym (rooted_value x a A hx ∙ ap (λ (b : ℕ). round binary64 false (2 * isqrt (b * 4 ^ 64) + 1) (2 ^ 602)) p))
              (root_units m i c h R z.low z.high place s.0 s.1 (omega arith)),
        )

-- ---- so a root is within a value of the format if it was before it was rounded: x ≤ (t / c) ^ 2
pub rescale : (x : Float) (s : Bool) (t c v l : ℕ) → 0 < c → t * l ≡ v * c → HasValue x s t c → HasValue x s v l
rescale nan s t c v l C e h = h
rescale (inf u) s t c v l C e h = h
rescale (fin u m d) s t c v l C e h = (
  h.0,
  eq_of_mul-eq-mul_right c C (m * up d * l) (v * down d)
      (mul_right_comm (m * up d) l c ∙ ap (λ (z : ℕ). z * l) h.1 ∙ mul_right_comm t (down d) l ∙ ap (λ (z : ℕ). z * down d) e ∙ mul_right_comm v c (down d)),
)

pub rooted_within : (x : Float) (a t c : ℕ) → T (fits binary64 x) → 0 < a → HasValue x false a (2 ^ 1074) → 0 < c → Value binary64 t c
    → a * (c * c) ≤ t * t * 2 ^ 1074 → Within (rooted x) t c
rooted_within x a t c F A hx C w h =
    let v = w.q * 2 ^ w.j in
    let y = round binary64 false t c in
    let hy : HasValue y false v (2 ^ 1074) =
    rescale y false t c v (2 ^ 1074) C w.is (round_exact binary64 false t c w.q w.j C w.digits w.under w.is) in
    let z = rooted_finite x a F A hx in
    let n = rooted_nearest x y a v z.0 F (round-fits binary64 false t c) A hx hy z.1 in
    let up_to : a * 2 ^ 1074 ≤ v * v =
    le_of_mul-le-mul_right
    (le_trans (le_of_eq (mul_right_comm a (2 ^ 1074) (c * c)))
    (le_trans (mul-le-mul_right (2 ^ 1074) h)
    (le_of_eq
    (mul_assoc (t * t) (2 ^ 1074) (2 ^ 1074) ∙ mul-mul-mul_comm t t (2 ^ 1074) (2 ^ 1074) ∙ ap (λ (k : ℕ). k * k) w.is ∙ mul-mul-mul_comm v c v c))))
    (mul-pos C C) in
    within_of_value (rooted x) false z.0 (2 ^ 1074) t c (pow_pos 1074) z.1
    (le_trans (mul-le-mul_right c (least z.0 v (a * 2 ^ 1074) up_to n.1)) (le_of_eq (sym w.is)))
  where
    double : (v : ℕ) → 4 * (v * v) ≡ (v + v) * (v + v)
    double v =
        let e : (v + v) * (v + v) ≡ v * (v + v) + v * (v + v) = add-mul v v (v + v) in
        let f : v * (v + v) ≡ v * v + v * v = mul-add v v v in
        omega arith

    least : (r v X : ℕ) → X ≤ v * v → (v < r → (r + v) * (r + v) < 4 * X) → r ≤ v
    least r v X l n = go (le_or_lt r v)
      where
        go : (r ≤ v) ⊎ (v < r) → r ≤ v
        go (inl k) = k
        go (inr k) =
            let d = double v in
            let m = n k in
            let s : r + v < v + v = square_lt (r + v) (v + v) (omega arith) in
            omega arith
