-- The norm of a sample is at least each part, and what is clamped has parts of at most 2. Assumes nothing.
use Rattle.std.specs.Prelude.{◌≡◌, refl, ℕ, suc, ◌+◌, ◌-◌, ◌*◌, ◌/◌, ◌^◌, ◌≤◌, ◌<◌, Bool, true, false, not, cond, T, Float}
use Rattle.std.proofs.Common.{sym, ap, ◌∙◌, subst, le_trans, le_of_eq, le_of_lt, mul-one, mul_assoc, mul_comm, mul_left_comm, mul_right_comm, add-mul, mul-pos, mul-le-mul, mul-le-mul_right, le_of_mul-le-mul_right, le-add_right, le-add_left, le-div_iff_mul-le, div-lt_iff_lt-mul, arith, true≢false, ltb→lt, nltb→le, lit<, pow_pos}
use Rattle.std.proofs.Math.Nat.{mul-mul-mul_comm, pow-succ'}
use Rattle.std.specs.Bool.{beq}
use Rattle.std.proofs.Math.Dec.{lit≤}
use Rattle.std.specs.Float.{nan, inf, fin, Format, binary32, binary64}
use Rattle.std.specs.Float.Ieee.{up, down, size, round, add, mul, div, lt, fits, of_bits}
use Rattle.std.specs.Float.Ieee.Digits.{size-lt, size_reaches}
use Rattle.std.specs.Float.Ieee.Fits.{down_pos, round-fits}
use Rattle.std.specs.Float.Ieee.Exact.{HasValue, round_exact}
use Rattle.std.specs.Float.Ieee.Scale.{grid, overflow, finite}
use Rattle.std.specs.Float.Ieee.Positive.{num, den, den_pos}
use Rattle.ieee.specs.Bound.{Within, Beyond, Value}
use Rattle.ieee.specs.Root.{rooted}
use Rattle.ieee.proofs.laws.Numbers.{pow_le_back, size_gt}
use Rattle.ieee.proofs.laws.Bounds.{within_mono, mul_within, div_within, round_within, whole_value, scaled_value, part_value}
use Rattle.ieee.proofs.laws.RoundingError.{round_value}
use Rattle.ieee.proofs.laws.Signed.{add_value}
use Rattle.ieee.proofs.laws.LowerBounds.{within_finite, own_within, under, fine, round_beyond, rooted_beyond, rooted_bound, rooted_plain, fits_value, squares}
use Rattle.ieee.proofs.laws.LowerBounds.{value_beyond, value_within, widened, scale_value}
use Rattle.ieee.proofs.laws.RootNearest.{rescale}
use Rattle.complex.specs.Complex.{Complex, power, norm, scaled}
use Rattle.rules.specs.Constants.{one}
use Rattle.rules.specs.Dc.{clamps, clamped}
use Rattle.dc_bounds.specs.Undone.{given_most}

-- ---- the power of a sample is one rounding of the exact one

-- the square of an f32 is exact in f64
square_is : (x : Float) → T (finite x) → T (fits binary32 x) → HasValue (mul binary64 x x) false (num x * num x) (den x * den x)
unfolding mul
square_is nan N F = absurd N
square_is (inf s) N F = absurd N
square_is (fin s m e) N F =
    let v = squares (m * up e) (down e) (fits_value binary32 (fin s m e) F tt) in
    subst (λ (t : Bool). HasValue (round binary64 t (m * up e * (m * up e)) (down e * down e)) false (m * up e * (m * up e)) (down e * down e)) (sym (alike s))
    (round_exact binary64 false (m * up e * (m * up e)) (down e * down e) v.q v.j (mul-pos (down_pos e) (down_pos e)) v.digits v.under v.is)
  where
    alike : (s : Bool) → not (beq s s) ≡ false
    alike true = refl
    alike false = refl

-- the sum of two values that are not negative
add_is : (f : Format) (x y : Float) (a c b d : ℕ) → 0 < c → 0 < d → HasValue x false a c → HasValue y false b d
    → add f x y ≡ round f false (a * d + b * c) (c * d)
add_is f x y a c b d C D h k =
    add_value f x y false (a * d) false (b * c) (c * d) (mul-pos C D)
    (rescale x false a c (a * d) (c * d) C (sym (mul_assoc a c d) ∙ mul_right_comm a c d) h)
    (rescale y false b d (b * c) (c * d) D (sym (mul_assoc b c d)) k)

-- ---- the norm is at least each part, and below 2 ^ 62
-- a part: a value of binary32, within what a sample and a level come to
abbrev pub part_most : ℕ
part_most = given_most + 2 ^ 54

pub record Part (x : Float) : Type 0 where
  pub single : T (fits binary32 x)
  pub small : Within x part_most 1

-- the norm of y: not below either part, within 2 ^ 62, not negative
pub record Normed (y : Complex) : Type 0 where
  pub re_least : Beyond (norm y) (num y.re) (den y.re)
  pub im_least : Beyond (norm y) (num y.im) (den y.im)
  pub most : Within (norm y) (2 ^ 62) 1
  pub plain : (r : ℕ) × HasValue (norm y) false r (2 ^ 1074)

-- P / Q + R / S is at most M + M
sum_bound : (P Q R S M : ℕ) → P ≤ M * Q → R ≤ M * S → P * S + R * Q ≤ (M + M) * (Q * S)
sum_bound P Q R S M h k =
    let a : P * S ≤ M * (Q * S) = le_trans (mul-le-mul_right S h) (le_of_eq (mul_assoc M Q S)) in
    let b : R * Q ≤ M * (Q * S) = le_trans (mul-le-mul_right Q k) (le_of_eq (mul_assoc M S Q ∙ ap (λ (x : ℕ). M * x) (mul_comm S Q))) in
    let c : (M + M) * (Q * S) ≡ M * (Q * S) + M * (Q * S) = add-mul M M (Q * S) in
    omega arith

power_is : (y : Complex) → Part y.re → Part y.im
    → power binary64 y
    ≡ round binary64 false (num y.re * num y.re * (den y.im * den y.im) + num y.im * num y.im * (den y.re * den y.re))
    (den y.re * den y.re * (den y.im * den y.im))
unfolding power
power_is y p q =
    add_is binary64 (mul binary64 y.re y.re) (mul binary64 y.im y.im) (num y.re * num y.re) (den y.re * den y.re)
    (num y.im * num y.im) (den y.im * den y.im)
    (mul-pos (den_pos y.re) (den_pos y.re)) (mul-pos (den_pos y.im) (den_pos y.im))
    (square_is y.re (within_finite y.re part_most 1 p.small) p.single)
    (square_is y.im (within_finite y.im part_most 1 q.small) q.single)

square_within : (x : Float) → Part x → num x * num x ≤ 2 ^ 122 * (den x * den x)
square_within x p =
    let h : num x ≤ 2 ^ 61 * den x =
    le_trans (le_of_eq (sym (mul-one (num x)))) (le_trans (own_within x part_most 1 p.small) (mul-le-mul_right (den x) (lit≤ tt))) in
    le_trans (mul-le-mul h h) (le_of_eq (mul-mul-mul_comm (2 ^ 61) (den x) (2 ^ 61) (den x)))

-- the same of a power w of the parts A / C and B / D
record Reaches (w : Float) (A C B D : ℕ) : Type 0 where
  first : Beyond (rooted w) A C
  second : Beyond (rooted w) B D
  most : Within (rooted w) (2 ^ 62) 1
  plain : (r : ℕ) × HasValue (rooted w) false r (2 ^ 1074)

reaches : (A C B D : ℕ) → 0 < C → 0 < D → Value binary32 A C → Value binary32 B D → A * A ≤ 2 ^ 122 * (C * C) → B * B ≤ 2 ^ 122 * (D * D)
    → Reaches (round binary64 false (A * A * (D * D) + B * B * (C * C)) (C * C * (D * D))) A C B D
reaches A C B D hC hD vA vB a b =
    let num = A * A * (D * D) + B * B * (C * C) in
    let den = C * C * (D * D) in
    let w = round binary64 false num den in
    let N : 0 < den = mul-pos (mul-pos hC hC) (mul-pos hD hD) in
    let most : num * 1 ≤ 2 ^ 124 * den =
    le_trans (le_of_eq (mul-one num)) (le_trans (sum_bound (A * A) (C * C) (B * B) (D * D) (2 ^ 122) a b) (mul-le-mul_right den (lit≤ tt))) in
    let big : Value binary64 (2 ^ 124) 1 = scaled_value binary64 1 124 (lit< tt) (lit≤ tt) in
    let o : grid binary64 num den < overflow binary64 = fine binary64 num den (2 ^ 124) 1 N (lit< tt) big most in
    let g = grid binary64 num den in
    let v : HasValue w false g (2 ^ 1074) = round_value binary64 false num den o in
    let F : T (fits binary64 w) = round-fits binary64 false num den in
    let ra : A * A * 2 ^ 1074 ≤ g * (C * C) =
    value_beyond w false g (2 ^ 1074) (A * A) (C * C) v
    (round_beyond binary64 false num den (A * A) (C * C) N (mul-pos hC hC) (squares A C vA) (one_of A C B D) o) in
    let rb : B * B * 2 ^ 1074 ≤ g * (D * D) =
    value_beyond w false g (2 ^ 1074) (B * B) (D * D) v
    (round_beyond binary64 false num den (B * B) (D * D) N (mul-pos hD hD) (squares B D vB) (other_of A C B D) o) in
    let top : g * (1 * 1) ≤ 2 ^ 62 * 2 ^ 62 * 2 ^ 1074 =
    value_within w false g (2 ^ 1074) (2 ^ 124) 1 v (round_within binary64 false num den (2 ^ 124) 1 N (lit< tt) big most) in
    record {
      first = rooted_beyond w g A C F v hC (widened A C vA) ra;
      second = rooted_beyond w g B D F v hD (widened B D vB) rb;
      most = rooted_bound w g (2 ^ 62) 1 F v (lit< tt) (scaled_value binary64 1 62 (lit< tt) (lit≤ tt)) top;
      plain = rooted_plain w g F v;
    }
  where
    one_of : (A C B D : ℕ) → A * A * (C * C * (D * D)) ≤ (A * A * (D * D) + B * B * (C * C)) * (C * C)
    one_of A C B D = le_trans (le_of_eq (same (A * A) (C * C) (D * D))) (mul-le-mul_right (C * C) (le-add_right (A * A * (D * D)) (B * B * (C * C))))
      where
        same : (a c d : ℕ) → a * (c * d) ≡ a * d * c
        same a c d = simp (mul_assoc, mul_comm, mul_left_comm)

    other_of : (A C B D : ℕ) → B * B * (C * C * (D * D)) ≤ (A * A * (D * D) + B * B * (C * C)) * (D * D)
    other_of A C B D =
        le_trans (le_of_eq (sym (mul_assoc (B * B) (C * C) (D * D)))) (mul-le-mul_right (D * D) (le-add_left (B * B * (C * C)) (A * A * (D * D))))

pub normed : (y : Complex) → Part y.re → Part y.im → Normed y
unfolding norm
normed y p q =
    let r = subst (λ (w : Float). Reaches w (num y.re) (den y.re) (num y.im) (den y.im)) (sym (power_is y p q))
    (reaches (num y.re) (den y.re) (num y.im) (den y.im) (den_pos y.re) (den_pos y.im)
    (fits_value binary32 y.re p.single (within_finite y.re part_most 1 p.small))
    (fits_value binary32 y.im q.single (within_finite y.im part_most 1 q.small))
    (square_within y.re p) (square_within y.im q)) in
    record { re_least = r.first; im_least = r.second; most = r.most; plain = r.plain }

-- ---- what is clamped has parts of at most 2

-- a number above 1 lies between two powers of two
binade : (m : Float) → T (lt one m) → Within m (2 ^ 62) 1 → (e : ℕ) × (e ≤ 62) × Beyond m (2 ^ e) 1 × Within m (2 ^ suc e) 1
unfolding lt of_bits
binade nan t w = absurd t
binade (inf s) t w = absurd w
binade (fin true n d) t w = absurd t
binade (fin false n d) t w =
    let N = n * up d in
    let D = down d in
    let l : 1 * D < N * 1 = ltb→lt (1 * D) (N * 1) t in
    let k = N / D in
    let pos-k : 1 ≤ k = (le-div_iff_mul-le (down_pos d)).1 (le_trans (le_of_lt l) (le_of_eq (mul-one N))) in
    let z = size k in
    let Z : 0 < z = size_gt k 0 pos-k in
    let e = z - 1 in
    let s : suc e ≡ z = up_again z Z in
    let lo : 2 ^ e * D ≤ N = (le-div_iff_mul-le (down_pos d)).0 (size_reaches k e (pre z Z)) in
    let hi : N < 2 ^ suc e * D = (div-lt_iff_lt-mul (down_pos d)).0 (subst (λ (x : ℕ). k < 2 ^ x) (sym s) (size-lt k)) in
    let top : e ≤ 62 = pow_le_back e 62 (le_of_mul-le-mul_right (le_trans lo (le_trans (le_of_eq (sym (mul-one N))) w)) (down_pos d)) in
    (e, top, le_trans lo (le_of_eq (sym (mul-one N))), le_trans (le_of_eq (mul-one N)) (le_of_lt hi))
  where
    up_again : (z : ℕ) → 0 < z → suc (z - 1) ≡ z
    up_again z Z = omega arith

    pre : (z : ℕ) → 0 < z → z - 1 < z
    pre z Z = omega arith

-- not above 1
at_most_one : (m : Float) (r c : ℕ) → T (not (lt one m)) → HasValue m false r c → Within m 1 1
unfolding lt of_bits
at_most_one nan r c t v = v
at_most_one (inf s) r c t v = v
at_most_one (fin true n d) r c t v = absurd (true≢false v.0)
at_most_one (fin false n d) r c t v = nltb→le (1 * down d) (n * up d * 1) t

-- a part of what is clamped, by the norm m
part_within : (m y : Float) (r c : ℕ) → T (finite y) → Beyond m (num y) (den y) → Within m (2 ^ 62) 1 → HasValue m false r c
    → Within (cond (lt one m) (mul binary64 y (div binary64 one m)) y) 2 1
part_within m y r c F b w v = go (lt one m) (λ t. t) (λ t. t)
  where
    unit : Within one 1 1
    unit = unfold of_bits in lit≤ tt

    large : T (lt one m) → Within (mul binary64 y (div binary64 one m)) 2 1
    large t =
        let i = binade m t w in
        let e = i.0 in
        let inverse : Within (div binary64 one m) 1 (2 ^ e) =
        div_within binary64 one m 1 1 (2 ^ e) 1 1 (2 ^ e) (lit< tt) (pow_pos e) (pow_pos e) (part_value binary64 1 e (lit< tt) (le_trans i.1 (lit≤ tt)))
        (le_of_eq (plain (2 ^ e))) unit i.2 in
        let part : Within y (2 ^ suc e) 1 = under y m (2 ^ suc e) 1 F b i.3 in
        let two : 2 ^ suc e ≡ 2 * 2 ^ e = pow-succ' 2 e in
        let val : Value binary64 (2 * 2 ^ e) (1 * 2 ^ e) = scale_value binary64 2 1 (2 ^ e) (whole_value binary64 2 (lit< tt)) in
        within_mono (mul binary64 y (div binary64 one m)) (2 * 2 ^ e) (1 * 2 ^ e) 2 1 (mul-pos (lit< tt) (pow_pos e)) (le_of_eq (again (2 ^ e)))
        (mul_within binary64 y (div binary64 one m) (2 ^ suc e) 1 1 (2 ^ e) (2 * 2 ^ e) (lit< tt) (pow_pos e) val
        (le_of_eq (mul-one (2 ^ suc e) ∙ two)) part inverse)
      where
        plain : (k : ℕ) → 1 * 1 * k ≡ 1 * (1 * k)
        plain k = omega arith

        again : (k : ℕ) → 2 * k * 1 ≡ 2 * (1 * k)
        again k = omega arith

    small : T (not (lt one m)) → Within y 2 1
    small t = within_mono y 1 1 2 1 (lit< tt) (lit≤ tt) (under y m 1 1 F b (at_most_one m r c t v))

    go : (q : Bool) → (T q → T (lt one m)) → (T (not q) → T (not (lt one m))) → Within (cond q (mul binary64 y (div binary64 one m)) y) 2 1
    go true k n = large (k tt)
    go false k n = small (n tt)

-- 'y first multiplied by 1/norm(y) where norm(y) > 1': parts of at most 2
pub record Clamped (y : Complex) : Type 0 where
  pub re : Within (clamped y).re 2 1
  pub im : Within (clamped y).im 2 1

-- a part of one or the other is one's part or the other's
part_of : (p : Complex → Float) (t : Bool) (a b : Complex) → cond t (p a) (p b) ≡ p (cond t a b)
part_of p true a b = refl
part_of p false a b = refl

pub clamped_within : (y : Complex) → Part y.re → Part y.im → Clamped y
unfolding clamps clamped scaled
clamped_within y p q =
    let n = normed y p q in
    let m = norm y in
    let z : Complex = scaled binary64 y (div binary64 one m) in
    record {
      re = subst (λ (x : Float). Within x 2 1) (part_of (λ (c : Complex). c.re) (lt one m) z y)
          (part_within m y.re n.plain.0 (2 ^ 1074) (within_finite y.re part_most 1 p.small) n.re_least n.most n.plain.1);
      im = subst (λ (x : Float). Within x 2 1) (part_of (λ (c : Complex). c.im) (lt one m) z y)
          (part_within m y.im n.plain.0 (2 ^ 1074) (within_finite y.im part_most 1 q.small) n.im_least n.most n.plain.1);
    }
