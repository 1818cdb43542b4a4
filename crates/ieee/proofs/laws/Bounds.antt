-- Bounds on floats. `Within x a c` says that x is finite and at most a / c in size, for a c above 0, and `Value f a c` that a / c is a value of the format f.
-- Where a bound is a value of the format, what is within it rounds to what is within it. So a sum, a difference and a product are within the bounds' sum and
-- product, or within any value above those. Assumes nothing.
use Rattle.std.specs.Prelude.{◌≡◌, ℕ, zero, suc, ◌+◌, ◌-◌, ◌*◌, ◌/◌, ◌%◌, ◌^◌, ◌<◌, ◌≤◌, Bool, true, false, cond, ◌&&◌, ◌||◌, T, ℤ, pos, ◌==◌, ◌≢◌, nat_lt, refl, Float}
use Rattle.std.proofs.Common.{sym, ap, ◌∙◌, subst, le_trans, le_of_eq, le_of_lt, lt_of_le_of_lt, sub-le, le-add_left, le-add_right, add-le-add, mul-one, mul_assoc, mul_comm, mul_left_comm, mul_right_comm, add-mul, mul-pos, mul-le-mul, mul-le-mul_right, le_of_mul-le-mul_right, mul-div_cancel, mul-lt-mul_of_pos_right, lt_of_lt_of_le, div-lt_iff_lt-mul, lt_irrefl, zero-mul, zero-lt-suc, arith, ltb→lt, eqb→eq, lit≤, pow-add, pow_pos, pow_mono, shl_lt}
use Rattle.std.proofs.Math.Nat.{mul-mul-mul_comm, mul-mod_left}
use Rattle.std.specs.Bool.{beq}
use Rattle.std.specs.Float.{nan, inf, fin, Format, binary32, binary64}
use Rattle.std.specs.Float.Ieee.{prec, emax, low, unlike, up, down, size, units, round, neg, sum, add, sub, mul, div, le, of_int}
use Rattle.std.specs.Float.Ieee.Digits.{size-le, back}
use Rattle.std.specs.Float.Ieee.Fits.{reach, up_pos, down_pos, round_is}
use Rattle.std.specs.Float.Ieee.Exact.{HasValue, units_val}
use Rattle.std.specs.Float.Ieee.Nearest.{closest, closest_mono}
use Rattle.std.specs.Float.Ieee.Order.{drop, kept}
use Rattle.ieee.specs.Bound.{Within, Beyond, Value}
use Rattle.ieee.specs.Narrow.{narrowed}
use Rattle.ieee.proofs.laws.Numbers.{pow_split}
use Rattle.ieee.proofs.laws.RoundedBits.{closest_down}

-- ---- rounding does not pass a value of the format
pub closest_whole : (r u : ℕ) → 0 < u → closest (r * u) u ≡ r
closest_whole r u h =
    let q : r * u / u ≡ r = mul-div_cancel r h in
    let z : r * u % u ≡ 0 = mul-mod_left r u in
    closest_down (r * u) u (omega arith) ∙ q

pub spare : (z p j : ℕ) → z ≤ p + j → z - p ≤ j
spare z p j h = omega arith

pub grid_le : (p n den q j : ℕ) → 0 < den → q < 2 ^ p → n ≤ q * 2 ^ j * den → kept p n den * 2 ^ drop p n den ≤ q * 2 ^ j
grid_le p n den q j D small h =
    let k = drop p n den in
    let u = den * 2 ^ k in
    let lt : n / den < 2 ^ (p + j) = (div-lt_iff_lt-mul D).1 (lt_of_le_of_lt h (mul_lt (shl_lt p j small))) in
    let le : k ≤ j = spare (size (n / den)) p j (size-le (n / den) (p + j) lt) in
    let r = q * 2 ^ (j - k) in
    let e : r * 2 ^ k ≡ q * 2 ^ j = pow_split q j k le in
    let U : 0 < u = mul-pos D (pow_pos k) in
    let n-le : n ≤ r * u = le_trans h (le_of_eq (ap (λ (x : ℕ). x * den) (sym e) ∙ mul_assoc r (2 ^ k) den ∙ ap (λ (x : ℕ). r * x) (mul_comm (2 ^ k) den))) in
    let c : closest n u ≤ r = le_trans (closest_mono n u (r * u) u U U (mul-le-mul_right u n-le)) (le_of_eq (closest_whole r u U)) in
    le_trans (mul-le-mul_right (2 ^ k) c) (le_of_eq e)
  where
    mul_lt : q * 2 ^ j < 2 ^ (p + j) → q * 2 ^ j * den < 2 ^ (p + j) * den
    mul_lt l = mul-lt-mul_of_pos_right l D

pub within_of_value : (x : Float) (s : Bool) (g l a c : ℕ) → 0 < l → HasValue x s g l → g * c ≤ a * l → Within x a c
within_of_value nan s g l a c L v h = v
within_of_value (inf t) s g l a c L v h = v
within_of_value (fin t m e) s g l a c L v h =
    le_of_mul-le-mul_right
    (le_trans (le_of_eq (mul_right_comm (m * up e) c l ∙ ap (λ (x : ℕ). x * c) v.1 ∙ mul_right_comm g (down e) c))
    (le_trans (mul-le-mul_right (down e) h) (le_of_eq (mul_right_comm a l (down e)))))
    L

pub round_within : (f : Format) (s : Bool) (num den a c : ℕ) → 0 < den → 0 < c → Value f a c → num * c ≤ a * den → Within (round f s num den) a c
round_within f s num den a c D C v h =
    let l = 2 ^ low f in
    let g = v.q * 2 ^ v.j in
    let n-le : num * l ≤ g * den =
    le_of_mul-le-mul_right
    (le_trans (le_of_eq (mul_right_comm num l c))
    (le_trans (mul-le-mul_right l h) (le_of_eq (mul_right_comm a den l ∙ ap (λ (x : ℕ). x * den) v.is ∙ mul_right_comm g c den))))
    C in
    let k = kept (prec f) (num * l) den * 2 ^ drop (prec f) (num * l) den in
    let k-le : k ≤ g = grid_le (prec f) (num * l) den v.q v.j D v.digits n-le in
    subst (λ (x : Float). Within x a c) (sym (round_is f s num den))
    (within_of_value (units f s (kept (prec f) (num * l) den) (drop (prec f) (num * l) den)) s k l a c (pow_pos (low f))
    (units_val f s (kept (prec f) (num * l) den) (drop (prec f) (num * l) den) (lt_of_le_of_lt k-le v.under))
    (le_trans (mul-le-mul_right c k-le) (le_of_eq (sym v.is))))

-- ---- sums and differences
cond_within : (b : Bool) (x y : Float) (a c : ℕ) → Within x a c → Within y a c → Within (cond b x y) a c
cond_within true x y a c h k = h
cond_within false x y a c h k = k

sum_within : (f : Format) (s : Bool) (m : ℕ) (t : Bool) (n d a c : ℕ) → 0 < d → 0 < c → Value f a c → (m + n) * c ≤ a * d → Within (sum f s m t n d) a c
unfolding sum
sum_within f s m t n d a c D C v h =
    let less : (k : ℕ) → k ≤ m + n → k * c ≤ a * d = λ k l. le_trans (mul-le-mul_right c l) h in
    cond_within (beq s t) _ _ a c (round_within f s (m + n) d a c D C v h)
    (cond_within (nat_lt m n) _ _ a c (round_within f t (n - m) d a c D C v (less (n - m) (le_trans (sub-le n m) (le-add_left n m))))
    (round_within f (s && nat_lt n m) (m - n) d a c D C v (less (m - n) (le_trans (sub-le m n) (le-add_right m n)))))

pub add_within : (f : Format) (x y : Float) (a b t c : ℕ) → 0 < c → Value f t c → a + b ≤ t → Within x a c → Within y b c → Within (add f x y) t c
unfolding add
add_within f nan y a b t c C v l h k = h
add_within f (inf s) y a b t c C v l h k = absurd h
add_within f (fin s m e) nan a b t c C v l h k = k
add_within f (fin s m e) (inf u) a b t c C v l h k = k
add_within f (fin s m e) (fin u n d) a b t c C v l h k =
    sum_within f s (m * up e * down d) u (n * up d * down e) (down e * down d) t c (mul-pos (down_pos e) (down_pos d)) C v
    (le_trans (le_of_eq (add-mul (m * up e * down d) (n * up d * down e) c))
    (le_trans (add-le-add p q)
    (le_trans (le_of_eq (sym (add-mul a b (down e * down d)))) (mul-le-mul_right (down e * down d) l))))
  where
    p : m * up e * down d * c ≤ a * (down e * down d)
    p = le_trans (le_of_eq (mul_right_comm (m * up e) (down d) c)) (le_trans (mul-le-mul_right (down d) h) (le_of_eq (mul_assoc a (down e) (down d))))

    q : n * up d * down e * c ≤ b * (down e * down d)
    q = le_trans (le_of_eq (mul_right_comm (n * up d) (down e) c))
        (le_trans (mul-le-mul_right (down e) k) (le_of_eq (mul_assoc b (down d) (down e) ∙ ap (λ (x : ℕ). b * x) (mul_comm (down d) (down e)))))

pub neg_within : (x : Float) (a c : ℕ) → Within x a c → Within (neg x) a c
unfolding neg
neg_within nan a c h = h
neg_within (inf s) a c h = h
neg_within (fin s m e) a c h = h

pub sub_within : (f : Format) (x y : Float) (a b t c : ℕ) → 0 < c → Value f t c → a + b ≤ t → Within x a c → Within y b c → Within (sub f x y) t c
unfolding sub
sub_within f x y a b t c C v l h k = add_within f x (neg y) a b t c C v l h (neg_within y b c k)

-- ---- products
pub mul_within : (f : Format) (x y : Float) (a c b d t : ℕ) → 0 < c → 0 < d → Value f t (c * d) → a * b ≤ t → Within x a c → Within y b d
    → Within (mul f x y) t (c * d)
unfolding mul
mul_within f nan y a c b d t C D v l h k = h
mul_within f (inf s) y a c b d t C D v l h k = absurd h
mul_within f (fin s m e) nan a c b d t C D v l h k = k
mul_within f (fin s m e) (inf u) a c b d t C D v l h k = absurd k
mul_within f (fin s m e) (fin u n g) a c b d t C D v l h k =
    round_within f (unlike s u) (m * up e * (n * up g)) (down e * down g) t (c * d) (mul-pos (down_pos e) (down_pos g)) (mul-pos C D) v
    (le_trans (le_of_eq (mul-mul-mul_comm (m * up e) (n * up g) c d))
    (le_trans (mul-le-mul h k)
    (le_trans (le_of_eq (mul-mul-mul_comm a (down e) b (down g))) (mul-le-mul_right (down e * down g) l))))

-- ---- which bounds are values: the whole numbers below 2 ^ prec, and at a given number by computing
pub whole_value : (f : Format) (n : ℕ) → n < 2 ^ prec f → Value f n 1
whole_value f n h = record {
  q = n;
  j = low f;
  digits = h;
  under = lt_of_lt_of_le (shl_lt (prec f) (low f) h) (pow_mono (fit f));
  is = sym (mul-one (n * 2 ^ low f));
}
  where
    fit : (f : Format) → prec f + low f ≤ low f + suc (emax f)
    fit binary32 = lit≤ tt
    fit binary64 = lit≤ tt

-- n * 2 ^ i, where that is below 2 ^ (emax + 1)
pub scaled_value : (f : Format) (n i : ℕ) → n < 2 ^ prec f → prec f + i ≤ suc (emax f) → Value f (n * 2 ^ i) 1
scaled_value f n i h l = record {
  q = n;
  j = i + low f;
  digits = h;
  under = lt_of_lt_of_le (shl_lt (prec f) (i + low f) h) (pow_mono (fit (prec f) (low f) (emax f) l));
  is = mul_assoc n (2 ^ i) (2 ^ low f) ∙ ap (λ (x : ℕ). n * x) (sym (pow-add 2 i (low f))) ∙ sym (mul-one (n * 2 ^ (i + low f)));
}
  where
    fit : (p l m : ℕ) → p + i ≤ suc m → p + (i + l) ≤ l + suc m
    fit p l m h = omega arith

-- n / 2 ^ i
pub part_value : (f : Format) (n i : ℕ) → n < 2 ^ prec f → i ≤ low f → Value f n (2 ^ i)
part_value f n i h l = record {
  q = n;
  j = low f - i;
  digits = h;
  under = lt_of_lt_of_le (shl_lt (prec f) (low f - i) h) (pow_mono (le_trans (fit (prec f) (low f) (emax f) i (reach f)) (le_of_eq refl)));
  is = ap (λ (x : ℕ). n * x) (ap (λ (x : ℕ). 2 ^ x) (sym (back (low f) i l)) ∙ pow-add 2 (low f - i) i) ∙ sym (mul_assoc n (2 ^ (low f - i)) (2 ^ i));
}
  where
    fit : (p l m i : ℕ) → p ≤ suc m → p + (l - i) ≤ l + suc m
    fit p l m i h = omega arith

-- ---- a wider bound
pub within_mono : (x : Float) (a c b d : ℕ) → 0 < c → a * d ≤ b * c → Within x a c → Within x b d
within_mono nan a c b d C l h = h
within_mono (inf s) a c b d C l h = h
within_mono (fin s m e) a c b d C l h =
    le_of_mul-le-mul_right
    (le_trans (le_of_eq (mul_right_comm (m * up e) d c))
    (le_trans (mul-le-mul_right d h)
    (le_trans (le_of_eq (mul_right_comm a (down e) d)) (le_trans (mul-le-mul_right (down e) l) (le_of_eq (mul_right_comm b c (down e)))))))
    C

-- ---- quotients
nonzero : (n : ℕ) (b dn u g : ℕ) → 0 < b → 0 < dn → b * dn ≤ n * u * g → 0 < n
nonzero zero b dn u g B D h = absurd (lt_irrefl 0 (lt_of_lt_of_le (mul-pos B D) (le_trans h (le_of_eq (ap (λ (x : ℕ). x * g) (zero-mul u) ∙ zero-mul g)))))
nonzero (suc n) b dn u g B D h = zero-lt-suc n

pub div_within : (f : Format) (x y : Float) (a c b g t u : ℕ) → 0 < c → 0 < b → 0 < u → Value f t u → a * g * u ≤ t * (c * b) → Within x a c → Beyond y b g
    → Within (div f x y) t u
unfolding div
div_within f nan y a c b g t u C B U v l h k = h
div_within f (inf s) y a c b g t u C B U v l h k = absurd h
div_within f (fin s m e) nan a c b g t u C B U v l h k = k
div_within f (fin s m e) (inf z) a c b g t u C B U v l h k = absurd k
div_within f (fin s m e) (fin z n d) a c b g t u C B U v l h k = go (n == 0) (eqb→eq n 0)
  where
    N : 0 < n
    N = nonzero n b (down d) (up d) g B (down_pos d) k

    no : (n : ℕ) → 0 < n → n ≢ 0
    no n h e = omega arith

    cross : m * up e * down d * u * (c * b) ≤ t * (n * up d * down e) * (c * b)
    cross =
        le_trans (le_of_eq (simp (mul_assoc, mul_comm, mul_left_comm)))
        (le_trans (mul-le-mul_right u (mul-le-mul h k))
        (le_trans (le_of_eq (simp (mul_assoc, mul_comm, mul_left_comm)))
        (le_trans (mul-le-mul_right (n * up d * down e) l) (le_of_eq (mul_right_comm t (c * b) (n * up d * down e))))))

    go : (q : Bool) → (T q → n ≡ 0) → Within (cond q (cond (m == 0) nan (inf (unlike s z))) (round f (unlike s z) (m * up e * down d) (n * up d * down e))) t u
    go true w = absurd (no n N (w tt))
    go false w =
        round_within f (unlike s z) (m * up e * down d) (n * up d * down e) t u (mul-pos (mul-pos N (up_pos d)) (down_pos e)) U v
        (le_of_mul-le-mul_right cross (mul-pos C B))

-- ---- what a program's tests say: -y ≤ x ≤ y
pub or_le : (a b : ℕ) (t : Bool) → T (nat_lt a b || (a == b && t)) → a ≤ b
or_le a b t h = go (nat_lt a b) (ltb→lt a b) (a == b) (eqb→eq a b) t h
  where
    go : (p : Bool) → (T p → a < b) → (q : Bool) → (T q → a ≡ b) → (t : Bool) → T (p || (q && t)) → a ≤ b
    go true l q e t h = le_of_lt (l tt)
    go false l true e t h = le_of_eq (e tt)
    go false l false e t h = absurd h

or_ge : (a b : ℕ) (t : Bool) → T (nat_lt b a || (a == b && t)) → b ≤ a
or_ge a b t h = go (nat_lt b a) (ltb→lt b a) (a == b) (eqb→eq a b) t h
  where
    go : (p : Bool) → (T p → b < a) → (q : Bool) → (T q → a ≡ b) → (t : Bool) → T (p || (q && t)) → b ≤ a
    go true l q e t h = le_of_lt (l tt)
    go false l true e t h = le_of_eq (sym (e tt))
    go false l false e t h = absurd h

pub between_within : (x : Float) (m : ℕ) (e : ℤ) → T (le x (fin false m e)) → T (le (fin true m e) x) → Within x (m * up e) (down e)
unfolding le
between_within nan m e h k = h
between_within (inf true) m e h k = k
between_within (inf false) m e h k = h
between_within (fin false n d) m e h k = or_le (n * up d * down e) (m * up e * down d) true h
between_within (fin true n d) m e h k = or_ge (m * up e * down d) (n * up d * down e) true k

-- ---- an integer as a float, and a float narrowed
pub of_int_within : (f : Format) (n t : ℕ) → Value f t 1 → n ≤ t → Within (of_int f (pos n)) t 1
unfolding of_int
of_int_within f n t v l = round_within f false n 1 t 1 (lit≤ tt) (lit≤ tt) v (mul-le-mul_right 1 l)

pub narrowed_within : (x : Float) (a c : ℕ) → 0 < c → Value binary32 a c → Within x a c → Within (narrowed x) a c
unfolding narrowed
narrowed_within nan a c C v h = h
narrowed_within (inf s) a c C v h = h
narrowed_within (fin s m e) a c C v h = round_within binary32 s (m * up e) (down e) a c (down_pos e) C v h
