-- Lower bounds. `Beyond x b g` says that x is finite and at least b / g in size. What a fraction reaches, its rounded value reaches, if that is a value of the
-- format. So does a root. Assumes nothing.
use Rattle.std.specs.Prelude.{◌≡◌, ℕ, zero, suc, ◌+◌, ◌-◌, ◌*◌, ◌%◌, ◌^◌, ◌<◌, ◌≤◌, Bool, true, false, ◌&&◌, ◌||◌, T, ltb, ◌⊎◌, ℤ, pos, negsuc, ◌==◌, nat_eq, nat_le, nat_lt, refl, Float}
use Rattle.std.proofs.Common.{sym, ap, ◌∙◌, subst, inl, inr, zero-le, le_trans, le_of_eq, lt_of_lt_of_le, lt_of_le_of_lt, eq-zero-or-pos, eq-or-lt_of_le, mul-one, one-mul, zero-mul, mul_assoc, mul_comm, mul_left_comm, mul_right_comm, add-mul, mul-add, mul-pos, mul-le-mul_right, mul-lt-mul_of_pos_right, lt_of_mul-lt-mul_right, le_of_mul-le-mul_right, lt_irrefl, arith, leb→le, ltb→lt, lt→ltb, lit≤, pow-add, pow_pos}
use Rattle.std.proofs.Math.Nat.{mul-mul-mul_comm}
use Rattle.std.specs.Float.{nan, inf, fin, Format, binary32, binary64}
use Rattle.std.specs.Float.Ieee.{prec, emax, low, up, down, round, le, fits}
use Rattle.std.specs.Float.Ieee.Digits.{back}
use Rattle.std.specs.Float.Ieee.Fits.{down_pos, round-fits, two, two-le_pos, and_l, and_r, and_i, eq→eqb}
use Rattle.std.specs.Float.Ieee.Exact.{HasValue, round_exact}
use Rattle.std.specs.Float.Ieee.Scale.{grid, overflow, finite}
use Rattle.std.specs.Float.Ieee.Positive.{num, den}
use Rattle.ieee.specs.Bound.{Within, Beyond, Value}
use Rattle.ieee.specs.Root.{rooted}
use Rattle.ieee.proofs.laws.Numbers.{pow_le_back, le_or_lt, square_lt, square_mono}
use Rattle.ieee.proofs.laws.Bounds.{grid_le, within_of_value}
use Rattle.ieee.proofs.laws.RootValue.{rooted_zero}
use Rattle.ieee.proofs.laws.RootNearest.{rescale, rooted_nearest, rooted_finite, rooted_within}
use Rattle.ieee.proofs.laws.RoundingError.{grid_ge, round_value}

-- ---- finite values and their fractions
pub within_finite : (x : Float) (a c : ℕ) → Within x a c → T (finite x)
within_finite nan a c h = h
within_finite (inf s) a c h = h
within_finite (fin s m e) a c h = tt

pub within_own : (x : Float) (a c : ℕ) → num x * c ≤ a * den x → T (finite x) → Within x a c
within_own nan a c h F = F
within_own (inf s) a c h F = F
within_own (fin s m e) a c h F = h

pub own_within : (x : Float) (a c : ℕ) → Within x a c → num x * c ≤ a * den x
own_within nan a c h = absurd h
own_within (inf s) a c h = absurd h
own_within (fin s m e) a c h = h

pub beyond_of_value : (x : Float) (s : Bool) (g l a c : ℕ) → 0 < l → HasValue x s g l → a * l ≤ g * c → Beyond x a c
beyond_of_value nan s g l a c L v h = v
beyond_of_value (inf t) s g l a c L v h = v
beyond_of_value (fin t m e) s g l a c L v h =
    le_of_mul-le-mul_right
    (le_trans (le_of_eq (mul_right_comm a (down e) l))
    (le_trans (mul-le-mul_right (down e) h)
    (le_of_eq (mul_right_comm g c (down e) ∙ ap (λ (x : ℕ). x * c) (sym v.1) ∙ mul_right_comm (m * up e) l c))))
    L

-- and back
pub value_beyond : (x : Float) (s : Bool) (g l a c : ℕ) → HasValue x s g l → Beyond x a c → a * l ≤ g * c
value_beyond nan s g l a c v b = absurd v
value_beyond (inf t) s g l a c v b = absurd v
value_beyond (fin t m e) s g l a c v b =
    le_of_mul-le-mul_right
    (le_trans (le_of_eq (mul_right_comm a l (down e)))
    (le_trans (mul-le-mul_right l b)
    (le_of_eq (mul_right_comm (m * up e) c l ∙ ap (λ (x : ℕ). x * c) v.1 ∙ mul_right_comm g (down e) c))))
    (down_pos e)

pub value_within : (x : Float) (s : Bool) (g l a c : ℕ) → HasValue x s g l → Within x a c → g * c ≤ a * l
value_within nan s g l a c v b = absurd v
value_within (inf t) s g l a c v b = absurd v
value_within (fin t m e) s g l a c v b =
    le_of_mul-le-mul_right
    (le_trans (le_of_eq (mul_right_comm g c (down e) ∙ ap (λ (x : ℕ). x * c) (sym v.1) ∙ mul_right_comm (m * up e) l c))
    (le_trans (mul-le-mul_right l b) (le_of_eq (mul_right_comm a (down e) l))))
    (down_pos e)

-- y is at most z in size, and z is at most a / c
pub under : (y z : Float) (a c : ℕ) → T (finite y) → Beyond z (num y) (den y) → Within z a c → Within y a c
under nan z a c F b w = F
under (inf s) z a c F b w = F
under (fin s m e) nan a c F b w = absurd b
under (fin s m e) (inf t) a c F b w = absurd b
under (fin s m e) (fin t n d) a c F b w =
    le_of_mul-le-mul_right
    (le_trans (le_of_eq (mul_right_comm (m * up e) c (down d)))
    (le_trans (mul-le-mul_right c b)
    (le_trans (le_of_eq (mul_right_comm (n * up d) (down e) c))
    (le_trans (mul-le-mul_right (down e) w) (le_of_eq (mul_right_comm a (down d) (down e)))))))
    (down_pos d)

-- ---- rounding reaches the values that the fraction reaches
pub fine : (f : Format) (num den a c : ℕ) → 0 < den → 0 < c → Value f a c → num * c ≤ a * den → grid f num den < overflow f
fine f num den a c D C v h =
    let l = 2 ^ low f in
    let g = v.q * 2 ^ v.j in
    let n-le : num * l ≤ g * den =
    le_of_mul-le-mul_right
    (le_trans (le_of_eq (mul_right_comm num l c))
    (le_trans (mul-le-mul_right l h) (le_of_eq (mul_right_comm a den l ∙ ap (λ (x : ℕ). x * den) v.is ∙ mul_right_comm g c den))))
    C in
    lt_of_le_of_lt (grid_le (prec f) (num * l) den v.q v.j D v.digits n-le) v.under

pub round_beyond : (f : Format) (s : Bool) (num den a c : ℕ) → 0 < den → 0 < c → Value f a c → a * den ≤ num * c → grid f num den < overflow f
    → Beyond (round f s num den) a c
round_beyond f s num den a c D C v h o =
    let l = 2 ^ low f in
    let g = v.q * 2 ^ v.j in
    let n-ge : g * den ≤ num * l =
    le_of_mul-le-mul_right
    (le_trans (le_of_eq (mul_right_comm g den c ∙ ap (λ (x : ℕ). x * den) (sym v.is) ∙ mul_right_comm a l den))
    (le_trans (mul-le-mul_right l h) (le_of_eq (mul_right_comm num c l))))
    C in
    let k-ge : g ≤ grid f num den = grid_ge (prec f) (num * l) den v.q v.j (two-le_pos (prec f) (two f)) D v.digits n-ge in
    beyond_of_value (round f s num den) s (grid f num den) l a c (pow_pos (low f)) (round_value f s num den o)
    (le_trans (le_of_eq v.is) (mul-le-mul_right c k-ge))

-- ---- a root reaches the values whose square was reached
no_square : (t k : ℕ) → 0 < k → t * t * k ≤ 0 → t ≡ 0
no_square zero k K h = refl
no_square (suc t) k K h = absurd (lt_irrefl 0 (lt_of_lt_of_le (mul-pos (mul-pos (lit t) (lit t)) K) h))
  where
    lit : (t : ℕ) → 0 < suc t
    lit t = omega arith

double : (v : ℕ) → 4 * (v * v) ≡ (v + v) * (v + v)
double v =
    let e : (v + v) * (v + v) ≡ v * (v + v) + v * (v + v) = add-mul v v (v + v) in
    let f : v * (v + v) ≡ v * v + v * v = mul-add v v v in
    omega arith

most : (r v X : ℕ) → v * v ≤ X → (r < v → 4 * X < (r + v) * (r + v)) → v ≤ r
most r v X l n = go (le_or_lt v r)
  where
    go : (v ≤ r) ⊎ (r < v) → v ≤ r
    go (inl k) = k
    go (inr k) =
        let d = double v in
        let m = n k in
        let s : v + v < r + v = square_lt (v + v) (r + v) (omega arith) in
        omega arith

zero_beyond : (x : Float) (s : Bool) (a c b : ℕ) → HasValue x s a c → Beyond x 0 b
zero_beyond nan s a c b h = h
zero_beyond (inf t) s a c b h = h
zero_beyond (fin t m e) s a c b h = le_trans (le_of_eq (zero-mul (down e))) zero-le

pub rooted_beyond : (x : Float) (a t c : ℕ) → T (fits binary64 x) → HasValue x false a (2 ^ 1074) → 0 < c → Value binary64 t c → t * t * 2 ^ 1074 ≤ a * (c * c)
    → Beyond (rooted x) t c
rooted_beyond x a t c F hx C w h = go (eq-zero-or-pos a)
  where
    go : (a ≡ 0) ⊎ (0 < a) → Beyond (rooted x) t c
    go (inl z) =
        let n : t ≡ 0 = no_square t (2 ^ 1074) (pow_pos 1074) (le_trans h (le_of_eq (ap (λ (k : ℕ). k * (c * c)) z ∙ zero-mul (c * c)))) in
        subst (λ (k : ℕ). Beyond (rooted x) k c) (sym n)
        (subst (λ (y : Float). Beyond y 0 c) (rooted_zero x false (2 ^ 1074) (pow_pos 1074) (subst (λ (k : ℕ). HasValue x false k (2 ^ 1074)) z hx))
        (zero_beyond x false a (2 ^ 1074) c hx))
    go (inr A) =
        let v = w.q * 2 ^ w.j in
        let y = round binary64 false t c in
        let hy : HasValue y false v (2 ^ 1074) =
        rescale y false t c v (2 ^ 1074) C w.is (round_exact binary64 false t c w.q w.j C w.digits w.under w.is) in
        let z = rooted_finite x a F A hx in
        let n = rooted_nearest x y a v z.0 F (round-fits binary64 false t c) A hx hy z.1 in
        let down_to : v * v ≤ a * 2 ^ 1074 =
        le_of_mul-le-mul_right
        (le_trans
        (le_of_eq
        (sym (mul_assoc (t * t) (2 ^ 1074) (2 ^ 1074) ∙ mul-mul-mul_comm t t (2 ^ 1074) (2 ^ 1074) ∙ ap (λ (k : ℕ). k * k) w.is
        ∙ mul-mul-mul_comm v c v c)))
        (le_trans (mul-le-mul_right (2 ^ 1074) h) (le_of_eq (mul_right_comm a (c * c) (2 ^ 1074)))))
        (mul-pos C C) in
        beyond_of_value (rooted x) false z.0 (2 ^ 1074) t c (pow_pos 1074) z.1
        (le_trans (le_of_eq w.is) (mul-le-mul_right c (most z.0 v (a * 2 ^ 1074) down_to n.0)))

-- the upper bound, at 0 too
zero_within : (x : Float) (s : Bool) (c t d : ℕ) → 0 < c → HasValue x s 0 c → Within x t d
zero_within x s c t d C h = within_of_value x s 0 c t d C h (le_trans (le_of_eq (zero-mul d)) zero-le)

pub rooted_bound : (x : Float) (a t c : ℕ) → T (fits binary64 x) → HasValue x false a (2 ^ 1074) → 0 < c → Value binary64 t c → a * (c * c) ≤ t * t * 2 ^ 1074
    → Within (rooted x) t c
rooted_bound x a t c F hx C w h = go (eq-zero-or-pos a)
  where
    go : (a ≡ 0) ⊎ (0 < a) → Within (rooted x) t c
    go (inl z) =
        let v : HasValue x false 0 (2 ^ 1074) = subst (λ (k : ℕ). HasValue x false k (2 ^ 1074)) z hx in
        subst (λ (y : Float). Within y t c) (rooted_zero x false (2 ^ 1074) (pow_pos 1074) v) (zero_within x false (2 ^ 1074) t c (pow_pos 1074) v)
    go (inr A) = rooted_within x a t c F A hx C w h

-- ---- a value of a format is a bound that is a value of it
record Fit (f : Format) (m : ℕ) (e : ℤ) : Type 0 where
  digits : m < 2 ^ prec f
  least : down e ≤ 2 ^ low f
  most : m * up e < 2 ^ suc (emax f) * down e

fit : (f : Format) (s : Bool) (m : ℕ) (e : ℤ) → T (fits f (fin s (suc m) e)) → Fit f (suc m) e
unfolding fits
fit f s m e t =
    let a : Bool = nat_eq (suc m % 2) 1 in
    let b : Bool = ltb (suc m) (2 ^ prec f) in
    let c : Bool = nat_le (down e) (2 ^ low f) in
    let d : Bool = ltb (suc m * up e) (2 ^ suc (emax f) * down e) in
    record {
      digits = ltb→lt (suc m) (2 ^ prec f) (and_r a b (and_l (a && b) c (and_l (a && b && c) d t)));
      least = leb→le (down e) (2 ^ low f) (and_r (a && b) c (and_l (a && b && c) d t));
      most = ltb→lt (suc m * up e) (2 ^ suc (emax f) * down e) (and_r (a && b && c) d t);
    }

-- 2 ^ e in units of 2 ^ -l
placed : (e : ℤ) (l : ℕ) → down e ≤ 2 ^ l → (j : ℕ) × (up e * 2 ^ l ≡ 2 ^ j * down e)
placed (pos k) l h = (k + l, sym (pow-add 2 k l) ∙ sym (mul-one (2 ^ (k + l))))
placed (negsuc k) l h =
    (l - suc k, one-mul (2 ^ l) ∙ sym (sym (pow-add 2 (l - suc k) (suc k)) ∙ ap (λ (x : ℕ). 2 ^ x) (back l (suc k) (pow_le_back (suc k) l h))))

fit_value : (f : Format) (m : ℕ) (e : ℤ) → Fit f m e → Value f (m * up e) (down e)
fit_value f m e t =
    let p = placed e (low f) t.least in
    let j = p.0 in
    let is : m * up e * 2 ^ low f ≡ m * 2 ^ j * down e = mul_assoc m (up e) (2 ^ low f) ∙ ap (λ (x : ℕ). m * x) p.1 ∙ sym (mul_assoc m (2 ^ j) (down e)) in
    record {
      q = m;
      j = j;
      digits = t.digits;
      under = lt_of_mul-lt-mul_right (down e) (lt_of_le_of_lt (le_of_eq (sym is)) (lt_of_lt_of_le (mul-lt-mul_of_pos_right t.most (pow_pos (low f)))
          (le_of_eq
          (mul_right_comm (2 ^ suc (emax f)) (down e) (2 ^ low f)
          ∙ ap (λ (x : ℕ). x * down e) (mul_comm (2 ^ suc (emax f)) (2 ^ low f) ∙ sym (pow-add 2 (low f) (suc (emax f))))))));
      is = is;
    }

pub fits_value : (f : Format) (x : Float) → T (fits f x) → T (finite x) → Value f (num x) (den x)
fits_value f nan F N = absurd N
fits_value f (inf s) F N = absurd N
fits_value f (fin s zero e) F N = record {
  q = 0;
  j = 0;
  digits = pow_pos (prec f);
  under = pow_pos (low f + suc (emax f));
  is = ap (λ (x : ℕ). x * 2 ^ low f) (zero-mul (up e)) ∙ zero-mul (2 ^ low f) ∙ sym (zero-mul (down e));
}
fits_value f (fin s (suc m) e) F N = fit_value f (suc m) e (fit f s m e F)

-- ---- the square of a value of binary32 is a value of binary64
pub squares : (a c : ℕ) → Value binary32 a c → Value binary64 (a * a) (c * c)
squares a c v =
    let q = v.q in
    let g = 2 ^ v.j in
    record {
      q = q * q;
      j = v.j + v.j + 776;
      digits = lt_of_lt_of_le (square_mono q (2 ^ 24) v.digits) (lit≤ tt);
      under = lt_of_le_of_lt (le_of_eq (ap (λ (x : ℕ). q * q * x) (pows v.j) ∙ flat q g (2 ^ 776)))
          (lt_of_lt_of_le (mul-lt-mul_of_pos_right (square_mono (q * g) (2 ^ 277) v.under) (pow_pos 776)) (lit≤ tt));
      is = both a (2 ^ 149) (2 ^ 776) q g c v.is ∙ ap (λ (x : ℕ). q * q * x * (c * c)) (sym (pows v.j));
    }
  where
    pows : (j : ℕ) → 2 ^ (j + j + 776) ≡ 2 ^ j * 2 ^ j * 2 ^ 776
    pows j = pow-add 2 (j + j) 776 ∙ ap (λ (x : ℕ). x * 2 ^ 776) (pow-add 2 j j)

    flat : (q g h : ℕ) → q * q * (g * g * h) ≡ q * g * (q * g) * h
    flat q g h = simp (mul_assoc, mul_comm, mul_left_comm)

    both : (a l m q g c : ℕ) → a * l ≡ q * g * c → a * a * (l * l * m) ≡ q * q * (g * g * m) * (c * c)
    both a l m q g c e = flat a l m ∙ ap (λ (x : ℕ). x * x * m) e ∙ spread q g c m
      where
        spread : (q g c m : ℕ) → q * g * c * (q * g * c) * m ≡ q * q * (g * g * m) * (c * c)
        spread q g c m = simp (mul_assoc, mul_comm, mul_left_comm)

-- a value of binary32 is a value of binary64
pub widened : (a c : ℕ) → Value binary32 a c → Value binary64 a c
widened a c v = record {
  q = v.q;
  j = v.j + 925;
  digits = lt_of_lt_of_le v.digits (lit≤ tt);
  under = lt_of_le_of_lt (le_of_eq (more v.q v.j)) (lt_of_lt_of_le (mul-lt-mul_of_pos_right v.under (pow_pos 925)) (lit≤ tt));
  is = sym (mul_assoc a (2 ^ 149) (2 ^ 925)) ∙ ap (λ (x : ℕ). x * 2 ^ 925) v.is ∙ mul_right_comm (v.q * 2 ^ v.j) c (2 ^ 925)
      ∙ ap (λ (x : ℕ). x * c) (sym (more v.q v.j));
}
  where
    more : (q j : ℕ) → q * 2 ^ (j + 925) ≡ q * 2 ^ j * 2 ^ 925
    more q j = ap (λ (x : ℕ). q * x) (pow-add 2 j 925) ∙ sym (mul_assoc q (2 ^ j) (2 ^ 925))

-- one fraction written with other numbers
pub scale_value : (f : Format) (a c k : ℕ) → Value f a c → Value f (a * k) (c * k)
scale_value f a c k v = record {
  q = v.q;
  j = v.j;
  digits = v.digits;
  under = v.under;
  is = mul_right_comm a k (2 ^ low f) ∙ ap (λ (x : ℕ). x * k) v.is ∙ mul_assoc (v.q * 2 ^ v.j) c k;
}

-- a root of what is not negative is not negative
pub rooted_plain : (x : Float) (a : ℕ) → T (fits binary64 x) → HasValue x false a (2 ^ 1074) → (r : ℕ) × HasValue (rooted x) false r (2 ^ 1074)
rooted_plain x a F hx = go (eq-zero-or-pos a)
  where
    go : (a ≡ 0) ⊎ (0 < a) → (r : ℕ) × HasValue (rooted x) false r (2 ^ 1074)
    go (inl z) =
        let v : HasValue x false 0 (2 ^ 1074) = subst (λ (k : ℕ). HasValue x false k (2 ^ 1074)) z hx in
        (0, subst (λ (y : Float). HasValue y false 0 (2 ^ 1074)) (rooted_zero x false (2 ^ 1074) (pow_pos 1074) v) v)
    go (inr A) = rooted_finite x a F A hx

-- ---- what is within a value passes a program's tests -y ≤ x ≤ y
or_i_l : (a b : Bool) → T a → T (a || b)
or_i_l true b t = tt
or_i_l false b t = absurd t

or_i_r : (a b : Bool) → T b → T (a || b)
or_i_r true b t = tt
or_i_r false b t = t

test_le : (a b : ℕ) → a ≤ b → T (nat_lt a b || (a == b && true))
test_le a b h =
    elim (eq-or-lt_of_le h)
    [ inl p ↦ or_i_r (nat_lt a b) (a == b && true) (and_i (a == b) true (eq→eqb p) tt) | inr q ↦ or_i_l (nat_lt a b) (a == b && true) (lt→ltb a b q) ]

test_ge : (a b : ℕ) → b ≤ a → T (nat_lt b a || (a == b && true))
test_ge a b h =
    elim (eq-or-lt_of_le h)
    [ inl p ↦ or_i_r (nat_lt b a) (a == b && true) (and_i (a == b) true (eq→eqb (sym p)) tt) | inr q ↦ or_i_l (nat_lt b a) (a == b && true) (lt→ltb b a q) ]

test_signs : (a b : ℕ) → T (nat_lt 0 (a + b) || (a == b && (false || a == 0)))
test_signs a b = go (eq-zero-or-pos (a + b))
  where
    go : (a + b ≡ 0) ⊎ (0 < a + b) → T (nat_lt 0 (a + b) || (a == b && (false || a == 0)))
    go (inl z) =
        or_i_r (nat_lt 0 (a + b)) (a == b && (false || a == 0))
        (and_i (a == b) (a == 0) (eq→eqb {a = a} {b = b} (omega arith)) (eq→eqb {a = a} {b = 0} (omega arith)))
    go (inr p) = or_i_l (nat_lt 0 (a + b)) (a == b && (false || a == 0)) (lt→ltb 0 (a + b) p)

pub within_between : (x : Float) (m : ℕ) (e : ℤ) → Within x (m * up e) (down e) → T (le x (fin false m e) && le (fin true m e) x)
unfolding le
within_between nan m e w = w
within_between (inf s) m e w = absurd w
within_between (fin false n d) m e w =
    and_i (le (fin false n d) (fin false m e)) (le (fin true m e) (fin false n d)) (test_le (n * up d * down e) (m * up e * down d) w)
    (test_signs (m * up e * down d) (n * up d * down e))
within_between (fin true n d) m e w =
    and_i (le (fin true n d) (fin false m e)) (le (fin true m e) (fin true n d)) (test_signs (n * up d * down e) (m * up e * down d))
    (test_ge (m * up e * down d) (n * up d * down e) w)
