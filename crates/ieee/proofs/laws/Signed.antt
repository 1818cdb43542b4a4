-- Sums with their signs, and numbers near each other. ±a is `gain` less `loss`, so that what is said of signed numbers is linear over ℕ. Assumes nothing.
use Rattle.std.specs.Prelude.{◌≡◌, ℕ, ◌+◌, ◌-◌, ◌*◌, ◌<◌, ◌≤◌, Bool, true, false, cond, not, ◌&&◌, T, nat_lt, refl, Float}
use Rattle.std.proofs.Common.{sym, ap, ◌∙◌, le_trans, le_of_eq, lt_of_lt_of_le, lt_of_le_of_lt, not-le_of_lt, mul_comm, mul_assoc, mul_right_comm, add-mul, mul-pos, mul-le-mul_right, le_of_mul-le-mul_right, mul-lt-mul_of_pos_right, arith, ltb→lt, nltb→le}
use Rattle.std.specs.Bool.{beq}
use Rattle.std.proofs.Math.Nat.{mul-sub}
use Rattle.std.specs.Float.{nan, inf, fin, Format}
use Rattle.std.specs.Float.Ieee.{up, down, round, neg, sum, add, sub}
use Rattle.std.specs.Float.Ieee.Fits.{down_pos}
use Rattle.std.specs.Float.Ieee.Exact.{HasValue}
use Rattle.std.specs.Float.Ieee.Scale.{round_same}
use Rattle.ieee.specs.Bound.{distance, Near}

abbrev pub gain : Bool → ℕ → ℕ
gain s a = cond s 0 a

abbrev pub loss : Bool → ℕ → ℕ
loss s a = cond s a 0

-- ±r is ±a + ±b, but for d at most
pub record Adds (u : Bool) (r : ℕ) (s : Bool) (a : ℕ) (t : Bool) (b d : ℕ) : Type 0 where
  pub over : gain u r + (loss s a + loss t b) ≤ loss u r + (gain s a + gain t b) + d
  pub under : loss u r + (gain s a + gain t b) ≤ gain u r + (loss s a + loss t b) + d

-- ---- the exact sum: its sign, as `sum` has it, and its size, which is how far ±a and ∓b are apart
abbrev pub sign_of : Bool → ℕ → Bool → ℕ → Bool
sign_of s a t b = cond (beq s t) s (cond (nat_lt a b) t (s && nat_lt b a))

abbrev pub size_of : Bool → ℕ → Bool → ℕ → ℕ
size_of s a t b = distance s a (not t) b

pub exact : (s : Bool) (a : ℕ) (t : Bool) (b : ℕ) → Adds (sign_of s a t b) (size_of s a t b) s a t b 0
exact true a true b = record { over = omega arith; under = omega arith }
exact false a false b = record { over = omega arith; under = omega arith }
exact true a false b = go (nat_lt a b) (ltb→lt a b) (nltb→le a b) (nat_lt b a) (ltb→lt b a) (nltb→le b a)
  where
    go : (x : Bool) → (T x → a < b) → (T (not x) → b ≤ a) → (y : Bool) → (T y → b < a) → (T (not y) → a ≤ b)
        → Adds (cond x false y) (a - b + (b - a)) true a false b 0
    go true l n y l' n' = let h = l tt in record { over = omega arith; under = omega arith }
    go false l n true l' n' = let h = n tt in record { over = omega arith; under = omega arith }
    go false l n false l' n' = let h = n tt in let k = n' tt in record { over = omega arith; under = omega arith }
exact false a true b = go (nat_lt a b) (ltb→lt a b) (nltb→le a b)
  where
    go : (x : Bool) → (T x → a < b) → (T (not x) → b ≤ a) → Adds (cond x true false) (a - b + (b - a)) false a true b 0
    go true l n = let h = l tt in record { over = omega arith; under = omega arith }
    go false l n = let h = n tt in record { over = omega arith; under = omega arith }

sum_is : (f : Format) (s : Bool) (a : ℕ) (t : Bool) (b c : ℕ) → sum f s a t b c ≡ round f (sign_of s a t b) (size_of s a t b) c
unfolding sum
sum_is f true a true b c = refl
sum_is f false a false b c = refl
sum_is f true a false b c = go (nat_lt a b) (ltb→lt a b) (nltb→le a b)
  where
    go : (x : Bool) → (T x → a < b) → (T (not x) → b ≤ a)
        → cond x (round f false (b - a) c) (round f (nat_lt b a) (a - b) c) ≡ round f (cond x false (nat_lt b a)) (a - b + (b - a)) c
    go true l n = let h = l tt in ap (λ (k : ℕ). round f false k c) (omega arith)
    go false l n = let h = n tt in ap (λ (k : ℕ). round f (nat_lt b a) k c) (omega arith)
sum_is f false a true b c = go (nat_lt a b) (ltb→lt a b) (nltb→le a b)
  where
    go : (x : Bool) → (T x → a < b) → (T (not x) → b ≤ a)
        → cond x (round f true (b - a) c) (round f false (a - b) c) ≡ round f (cond x true false) (a - b + (b - a)) c
    go true l n = let h = l tt in ap (λ (k : ℕ). round f true k c) (omega arith)
    go false l n = let h = n tt in ap (λ (k : ℕ). round f false k c) (omega arith)

-- ---- it sees only the values

ltb_same : (a b a' b' c d : ℕ) → 0 < c → 0 < d → a * d ≡ a' * c → b * d ≡ b' * c → nat_lt a b ≡ nat_lt a' b'
ltb_same a b a' b' c d C D p q = go (nat_lt a b) (ltb→lt a b) (nltb→le a b) (nat_lt a' b') (ltb→lt a' b') (nltb→le a' b')
  where
    go : (x : Bool) → (T x → a < b) → (T (not x) → b ≤ a) → (y : Bool) → (T y → a' < b') → (T (not y) → b' ≤ a') → x ≡ y
    go true l n true l' n' = refl
    go false l n false l' n' = refl
    go true l n false l' n' =
        absurd
        (not-le_of_lt (lt_of_le_of_lt (le_of_eq (sym p)) (lt_of_lt_of_le (mul-lt-mul_of_pos_right (l tt) D) (le_of_eq q))) (mul-le-mul_right c (n' tt)))
    go false l n true l' n' =
        absurd
        (not-le_of_lt (lt_of_le_of_lt (le_of_eq p) (lt_of_lt_of_le (mul-lt-mul_of_pos_right (l' tt) C) (le_of_eq (sym q)))) (mul-le-mul_right d (n tt)))

sub_times : (a b k : ℕ) → a * k - b * k ≡ (a - b) * k
sub_times a b k = (λ i. mul_comm a k i - mul_comm b k i) ∙ sym (mul-sub k a b) ∙ mul_comm k (a - b)

distance_times : (s : Bool) (a : ℕ) (t : Bool) (b k : ℕ) → distance s (a * k) t (b * k) ≡ distance s a t b * k
distance_times s a t b k = go (beq s t)
  where
    go : (x : Bool) → cond x (a * k - b * k + (b * k - a * k)) (a * k + b * k) ≡ cond x (a - b + (b - a)) (a + b) * k
    go true = (λ i. sub_times a b k i + sub_times b a k i) ∙ sym (add-mul (a - b) (b - a) k)
    go false = sym (add-mul a b k)

-- two values over one denominator: m / e = a / c, n / d = b / c
module _ (m e n d a b c : ℕ) (p : m * c ≡ a * e) (q : n * c ≡ b * d) where
  first_over : m * d * c ≡ a * (e * d)
  first_over = mul_right_comm m d c ∙ ap (λ (z : ℕ). z * d) p ∙ mul_assoc a e d

  second_over : n * e * c ≡ b * (e * d)
  second_over = mul_right_comm n e c ∙ ap (λ (z : ℕ). z * e) q ∙ mul_assoc b d e ∙ ap (λ (z : ℕ). b * z) (mul_comm d e)

  distance_over : (s t : Bool) → distance s (m * d) t (n * e) * c ≡ distance s a t b * (e * d)
  distance_over s t =
      sym (distance_times s (m * d) t (n * e) c) ∙ (λ i. distance s (first_over i) t (second_over i)) ∙ distance_times s a t b (e * d)

pub add_value : (f : Format) (x y : Float) (s : Bool) (a : ℕ) (t : Bool) (b c : ℕ) → 0 < c → HasValue x s a c → HasValue y t b c
    → add f x y ≡ round f (sign_of s a t b) (size_of s a t b) c
unfolding add
add_value f nan y s a t b c C h k = absurd h
add_value f (inf v) y s a t b c C h k = absurd h
add_value f (fin v m e) nan s a t b c C h k = absurd k
add_value f (fin v m e) (inf w) s a t b c C h k = absurd k
add_value f (fin v m e) (fin w n d) s a t b c C h k =
    let M = m * up e in
    let N = n * up d in
    let D = mul-pos (down_pos e) (down_pos d) in
    let p = first_over M (down e) N (down d) a b c h.1 k.1 in
    let q = second_over M (down e) N (down d) a b c h.1 k.1 in
    (λ i. sum f (h.0 i) (M * down d) (k.0 i) (N * down e) (down e * down d))
    ∙ sum_is f s (M * down d) t (N * down e) (down e * down d)
    ∙ (λ i. round f (cond (beq s t) s (cond (ltb_same (M * down d) (N * down e) a b (down e * down d) c D C p q i) t
    (s && ltb_same (N * down e) (M * down d) b a (down e * down d) c D C q p i))) (size_of s (M * down d) t (N * down e)) (down e * down d))
    ∙ round_same f (sign_of s a t b) (size_of s (M * down d) t (N * down e)) (down e * down d) (size_of s a t b) c D C
    (distance_over M (down e) N (down d) a b c h.1 k.1 s (not t))

neg_value : (x : Float) (s : Bool) (a c : ℕ) → HasValue x s a c → HasValue (neg x) (not s) a c
unfolding neg
neg_value nan s a c h = h
neg_value (inf t) s a c h = h
neg_value (fin t m e) s a c h = (ap not h.0, h.1)

pub sub_value : (f : Format) (x y : Float) (s : Bool) (a : ℕ) (t : Bool) (b c : ℕ) → 0 < c → HasValue x s a c → HasValue y t b c
    → sub f x y ≡ round f (sign_of s a (not t) b) (size_of s a (not t) b) c
unfolding sub
sub_value f x y s a t b c C h k = add_value f x (neg y) s a (not t) b c C h (neg_value y t b c k)

-- ---- values whose numbers are near are near
pub near_values : (x y : Float) (s : Bool) (a : ℕ) (t : Bool) (b c d n k : ℕ) → 0 < c → HasValue x s a c → HasValue y t b c
    → distance s a t b ≤ d → d * k ≤ n * c → Near x y n k
near_values nan y s a t b c d n k C h h' l m = h
near_values (inf v) y s a t b c d n k C h h' l m = h
near_values (fin v p e) nan s a t b c d n k C h h' l m = h'
near_values (fin v p e) (inf w) s a t b c d n k C h h' l m = h'
near_values (fin v p e) (fin w q g) s a t b c d n k C h h' l m =
    let z = down e * down g in
    let r = distance v (p * up e * down g) w (q * up g * down e) in
    let o : r * c ≡ distance s a t b * z = distance_over (p * up e) (down e) (q * up g) (down g) a b c h.1 h'.1 v w
    ∙ (λ i. distance (h.0 i) a (h'.0 i) b * z) in
    le_of_mul-le-mul_right
    (le_trans (le_of_eq (mul_right_comm r k c ∙ ap (λ (j : ℕ). j * k) o ∙ mul_right_comm (distance s a t b) z k))
    (le_trans (mul-le-mul_right z (le_trans (mul-le-mul_right k l) m)) (le_of_eq (mul_right_comm n c z))))
    C
