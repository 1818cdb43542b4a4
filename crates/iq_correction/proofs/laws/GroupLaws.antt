-- A small coefficient gives a number of every finite sample, and its word by bits. Assumes nothing.
use Rattle.std.specs.Prelude.{◌≡◌, ℕ, zero, suc, ◌+◌, ◌-◌, ◌*◌, ◌/◌, ◌%◌, ◌^◌, ◌<◌, ◌≤◌, Bool, true, false, not, ◌&&◌, T, pos, ◌≢◌, bit_or, nat_le, nat_lt, Float}
use Rattle.std.proofs.Common.{sym, ap, ◌∙◌, subst, le_trans, le_of_eq, le_of_lt, mul-one, mul_right_comm, mul-le-mul_right, le_of_mul-le-mul_right, arith, lit≤, lit<, pow_pos, le-leb, lt-ltb, le-ltb}
use Rattle.std.proofs.lemmas.Nat.{and_le_l, and_le_r, or_mod}
use Rattle.std.specs.Int.Bits.{or_add_and}
use Rattle.std.specs.Float.{nan, inf, fin, binary32, binary64}
use Rattle.std.specs.Float.Ieee.{neg, add, sub, mul, le, to_bits, of_bits, fits, is_nan}
use Rattle.std.specs.Float.Ieee.Bits.{nan_bits_is, to_bits-of_bits, to_bits-lt, of_bits-fits}
use Rattle.std.specs.Float.Ieee.Fits.{and_i, and_l, and_r, sub-fits}
use Rattle.std.specs.Float.Ieee.Positive.{num, den}
use Rattle.std.specs.Float.Ieee.Scale.{finite}
use Rattle.ieee.specs.Bound.{Within, Value}
use Rattle.ieee.proofs.laws.Bounds.{add_within, sub_within, mul_within, neg_within, scaled_value, between_within}
use Rattle.ieee.proofs.laws.LowerBounds.{within_own, fits_value}
use Rattle.ieee.proofs.laws.Nan.{no_nan_bits}
use Rattle.ieee.specs.Narrow.{normal_in, cut_of}
use Rattle.ieee.proofs.laws.SingleLaws.{cut}
use Rattle.complex.specs.Complex.{Complex, difference, product, conjugate, narrowed_parts, word_of, sample_of}
use Rattle.complex.specs.declared.Complex64.{Complex64}
use Rattle.complex.specs.View.{view64, make64}
use Rattle.rules.specs.Constants.{two}
use Rattle.rules.specs.Iq.{ranged, corrected}
use Rattle.iq_correction.specs.Groups.{Small, FiniteWord, Clear, rebased, part_bits, pattern_cut}

-- ---- the coefficient, by the test
part_small : (x : Float) → T (ranged (neg two) two x) → Within x 2 1
unfolding neg of_bits
part_small x h = between_within x 1 (pos 1) (and_r (le (neg two) x) (le x two) h) (and_l (le (neg two) x) (le x two) h)

pub small : (r : Complex) {t : Bool} → t ≡ (ranged (neg two) two r.re && ranged (neg two) two r.im) → t ≡ true → Small r
small r tested holds =
    let h : T (ranged (neg two) two r.re && ranged (neg two) two r.im) = subst T (sym holds ∙ tested) tt in
    record {
      re = part_small r.re (and_l (ranged (neg two) two r.re) (ranged (neg two) two r.im) h);
      im = part_small r.im (and_r (ranged (neg two) two r.re) (ranged (neg two) two r.im) h);
    }

-- ---- a finite part
pub part_number : (n : ℕ) → n % 2 ^ 31 < 255 * 2 ^ 23 → T (not (is_nan (of_bits binary32 n)))
part_number n h = subst (λ (t : Bool). T (not t)) (nan_bits_is binary32 n) (no_nan_bits binary32 n (le-ltb (255 * 2 ^ 23) (n % 2 ^ 31) (le_of_lt h)))

finite_of_bits : (v : Float) (n : ℕ) → n % 2 ^ 31 < 255 * 2 ^ 23 → T (not (is_nan v)) → to_bits binary32 v ≡ n → T (finite v)
unfolding to_bits is_nan
finite_of_bits nan n h N e = N
finite_of_bits (inf true) n h N e = no n h e
  where
    no : (n : ℕ) → n % 2 ^ 31 < 255 * 2 ^ 23 → 2 ^ 31 + 255 * 2 ^ 23 ≢ n
    no n h e = omega arith
finite_of_bits (inf false) n h N e = no n h e
  where
    no : (n : ℕ) → n % 2 ^ 31 < 255 * 2 ^ 23 → 255 * 2 ^ 23 ≢ n
    no n h e = omega arith
finite_of_bits (fin s m e) n h N q = tt

part_within : (x : Float) → T (fits binary32 x) → T (finite x) → Within x (2 ^ 128) 1
part_within x F N =
    let v = fits_value binary32 x F N in
    let a : num x * 2 ^ 149 ≤ 2 ^ 277 * den x = le_trans (le_of_eq v.is) (mul-le-mul_right (den x) (le_of_lt v.under)) in
    let b : 2 ^ 277 * den x ≡ 2 ^ 128 * den x * 2 ^ 149 = mul_right_comm (2 ^ 128) (2 ^ 149) (den x) in
    within_own x (2 ^ 128) 1 (le_trans (le_of_eq (mul-one (num x))) (le_of_mul-le-mul_right (le_trans a (le_of_eq b)) (pow_pos 149))) N

bits_within : (n : ℕ) → n < 2 ^ 32 → n % 2 ^ 31 < 255 * 2 ^ 23 → Within (of_bits binary32 n) (2 ^ 128) 1
bits_within n w h =
    let N = part_number n h in
    part_within (of_bits binary32 n) (of_bits-fits binary32 n) (finite_of_bits (of_bits binary32 n) n h N (to_bits-of_bits binary32 n w N))

-- ---- the correction before it is rounded
abbrev pub exact : Complex → ℕ → Complex
exact r w = difference binary64 (sample_of w) (product binary64 r (conjugate (sample_of w)))

power_of_two : (i : ℕ) → 53 + i ≤ 1024 → Value binary64 (1 * 2 ^ i) 1
power_of_two i h = scaled_value binary64 1 i (lit< tt) h

product_within : (x y : Float) → Within x 2 1 → Within y (2 ^ 128) 1 → Within (mul binary64 x y) (2 ^ 129) 1
product_within x y h k = mul_within binary64 x y 2 1 (2 ^ 128) 1 (2 ^ 129) (lit< tt) (lit< tt) (power_of_two 129 (lit≤ tt)) (lit≤ tt) h k

number : (x : Float) (a c : ℕ) → Within x a c → T (not (is_nan x))
unfolding is_nan
number nan a c h = h
number (inf s) a c h = tt
number (fin s m e) a c h = tt

pub record Number (x : Float) : Type 0 where
  pub some : T (not (is_nan x))
  pub fit : T (fits binary64 x)

a_number : (x : Float) (a : ℕ) → T (fits binary64 x) → Within x a 1 → Number x
a_number x a F h = record { some = number x a 1 h; fit = F }

pub record Numbers (z : Complex) : Type 0 where
  pub re : Number z.re
  pub im : Number z.im

pub numbers : (r : Complex) (w : ℕ) → w < 2 ^ 64 → Small r → FiniteWord w → Numbers (exact r w)
unfolding difference product conjugate sample_of
numbers r w W s f =
    let lo : w % 2 ^ 32 % 2 ^ 31 < 255 * 2 ^ 23 = low w f.re in
    let a = bits_within (w % 2 ^ 32) (low_lt w) lo in
    let b = bits_within (w / 2 ^ 32) (high_lt w W) f.im in
    let n = neg_within (of_bits binary32 (w / 2 ^ 32)) (2 ^ 128) 1 b in
    let re = less _ _ (product_within _ _ s.re a) (product_within _ _ s.im n) in
    let im = more _ _ (product_within _ _ s.re n) (product_within _ _ s.im a) in
    record { re = a_number _ (2 ^ 131) (sub-fits binary64 _ _) (last _ _ a re); im = a_number _ (2 ^ 131) (sub-fits binary64 _ _) (last _ _ b im) }
  where
    low : (w : ℕ) → w % 2 ^ 31 < 255 * 2 ^ 23 → w % 2 ^ 32 % 2 ^ 31 < 255 * 2 ^ 23
    low w h = omega arith

    low_lt : (w : ℕ) → w % 2 ^ 32 < 2 ^ 32
    low_lt w = omega arith

    high_lt : (w : ℕ) → w < 2 ^ 64 → w / 2 ^ 32 < 2 ^ 32
    high_lt w h = omega arith

    less : (x y : Float) → Within x (2 ^ 129) 1 → Within y (2 ^ 129) 1 → Within (sub binary64 x y) (2 ^ 130) 1
    less x y h k = sub_within binary64 x y (2 ^ 129) (2 ^ 129) (2 ^ 130) 1 (lit< tt) (power_of_two 130 (lit≤ tt)) (lit≤ tt) h k

    more : (x y : Float) → Within x (2 ^ 129) 1 → Within y (2 ^ 129) 1 → Within (add binary64 x y) (2 ^ 130) 1
    more x y h k = add_within binary64 x y (2 ^ 129) (2 ^ 129) (2 ^ 130) 1 (lit< tt) (power_of_two 130 (lit≤ tt)) (lit≤ tt) h k

    last : (x y : Float) → Within x (2 ^ 128) 1 → Within y (2 ^ 130) 1 → Within (sub binary64 x y) (2 ^ 131) 1
    last x y h k = sub_within binary64 x y (2 ^ 128) (2 ^ 130) (2 ^ 131) 1 (lit< tt) (power_of_two 131 (lit≤ tt)) (lit≤ tt) h k

-- ---- and its word
pub word_is : (r : Complex) (w : ℕ) → Numbers (exact r w) → T (normal_in (to_bits binary64 (exact r w).re)) → T (normal_in (to_bits binary64 (exact r w).im))
    → pattern_cut (to_bits binary64 (exact r w).re) + pattern_cut (to_bits binary64 (exact r w).im) * 2 ^ 32 ≡ corrected r w
unfolding corrected word_of narrowed_parts
word_is r w n h k = λ i. (cut (exact r w).re n.re.fit h).word i + (cut (exact r w).im n.im.fit k).word i * 2 ^ 32

-- ---- bits whose rebased ones are clear

-- the sign g, and n for the other bits rounded: what 960 less in the exponent leaves of them
record Sized (g n r : ℕ) : Type 0 where
  low : 960 * 2 ^ 52 ≤ n
  high : n < 960 * 2 ^ 52 + 2 ^ 59
  left : r ≡ g * 2 ^ 63 + (n - 960 * 2 ^ 52)

sized : (g n r : ℕ) → g < 2 → n ≤ 2 ^ 63 + 2 ^ 28 → r ≡ (g * 2 ^ 63 + n + 0xc400_0000_0000_0000) % 2 ^ 64 → Clear r → Sized g n r
sized zero n r u h e c = record { low = omega arith; high = omega arith; left = omega arith }
sized (suc zero) n r u h e c = record { low = omega arith; high = omega arith; left = omega arith }
sized (suc (suc g)) n r u h e c = absurd (omega arith)

-- the bits b as those two, t for their last digit that is kept
record Signed (b t g n : ℕ) : Type 0 where
  few : g < 2
  under : n ≤ 2 ^ 63 + 2 ^ 28
  same : b + (0xc400_0000_0fff_ffff + t) ≡ g * 2 ^ 63 + n + 0xc400_0000_0000_0000
  sum : b + 0x0fff_ffff + t ≡ g * 2 ^ 63 + n

signed : (b t : ℕ) → b < 2 ^ 64 → t < 2 → Signed b t (b / 2 ^ 63) (b % 2 ^ 63 + 0x0fff_ffff + t)
signed b t w u = record { few = omega arith; under = omega arith; same = omega arith; sum = omega arith }

odd : (q : ℕ) → q % 2 < 2
odd q = omega arith

bits_sized : (b : ℕ) → b < 2 ^ 64 → Clear (rebased b) → Sized (b / 2 ^ 63) (b % 2 ^ 63 + 0x0fff_ffff + b / 2 ^ 29 % 2) (rebased b)
bits_sized b w h =
    let s = signed b (b / 2 ^ 29 % 2) w (odd (b / 2 ^ 29)) in
    sized (b / 2 ^ 63) (b % 2 ^ 63 + 0x0fff_ffff + b / 2 ^ 29 % 2) (rebased b) s.few s.under (ap (λ (x : ℕ). x % 2 ^ 64) s.same) h

pub marked : (b : ℕ) → b < 2 ^ 64 → Clear (rebased b) → T (normal_in b)
marked b w h =
    let s = bits_sized b w h in
    let l = low (b % 2 ^ 63) (b / 2 ^ 29 % 2) (odd (b / 2 ^ 29)) s.low in
    let g = high (b % 2 ^ 63) (b / 2 ^ 29 % 2) s.high in
    and_i (nat_le (897 * 2 ^ 52) (b % 2 ^ 63)) (nat_lt (b % 2 ^ 63) (1150 * 2 ^ 52)) (subst T (sym (le-leb _ _ l)) tt) (subst T (sym (lt-ltb _ _ g)) tt)
  where
    low : (s t : ℕ) → t < 2 → 960 * 2 ^ 52 ≤ s + 0x0fff_ffff + t → 897 * 2 ^ 52 ≤ s
    low s t u h = omega arith

    high : (s t : ℕ) → s + 0x0fff_ffff + t < 960 * 2 ^ 52 + 2 ^ 59 → s < 1150 * 2 ^ 52
    high s t h = omega arith

part_is : (b : ℕ) → b < 2 ^ 64 → Clear (rebased b) → part_bits b (rebased b) + 2 ^ 29 ≡ pattern_cut b
part_is b w h =
    let s = bits_sized b w h in
    let g = b / 2 ^ 63 in
    let n = b % 2 ^ 63 + 0x0fff_ffff + b / 2 ^ 29 % 2 in
    let m = n - 960 * 2 ^ 52 in
    let c : cut_of b ≡ g * 2 ^ 34 + 960 * 2 ^ 23 + m / 2 ^ 29 = ap (λ (x : ℕ). x / 2 ^ 29) (signed b (b / 2 ^ 29 % 2) w (odd (b / 2 ^ 29))).sum
    ∙ whole g n s.low in
    ap (λ (x : ℕ). x / 2 ^ 29 % 2 ^ 30 + g * 2 ^ 31 + 2 ^ 29) s.left
    ∙ ap (λ (x : ℕ). x % 2 ^ 30 + g * 2 ^ 31 + 2 ^ 29) (rest g m)
    ∙ digits g (m / 2 ^ 29) (few n s.low s.high)
    ∙ ap (λ (x : ℕ). x % 2 ^ 30 + x / 2 ^ 33 * 2 ^ 30) (sym c)
  where
    whole : (g n : ℕ) → 960 * 2 ^ 52 ≤ n → (g * 2 ^ 63 + n) / 2 ^ 29 ≡ g * 2 ^ 34 + 960 * 2 ^ 23 + (n - 960 * 2 ^ 52) / 2 ^ 29
    whole g n h = omega arith

    rest : (g m : ℕ) → (g * 2 ^ 63 + m) / 2 ^ 29 ≡ g * 2 ^ 34 + m / 2 ^ 29
    rest g m = omega arith

    few : (n : ℕ) → 960 * 2 ^ 52 ≤ n → n < 960 * 2 ^ 52 + 2 ^ 59 → (n - 960 * 2 ^ 52) / 2 ^ 29 < 2 ^ 30
    few n l h = omega arith

    digits : (g q : ℕ) → q < 2 ^ 30
        → (g * 2 ^ 34 + q) % 2 ^ 30 + g * 2 ^ 31 + 2 ^ 29 ≡ (g * 2 ^ 34 + 960 * 2 ^ 23 + q) % 2 ^ 30 + (g * 2 ^ 34 + 960 * 2 ^ 23 + q) / 2 ^ 33 * 2 ^ 30
    digits g q h = omega arith

pub part_lt : (b r : ℕ) → b < 2 ^ 64 → part_bits b r < 2 ^ 31 + 2 ^ 30
part_lt b r w = omega arith

-- ---- clear words put together
pub or_l : (a b : ℕ) → a ≤ bit_or a b
or_l a b = let s = or_add_and a b in let l = and_le_r a b in omega arith

pub or_r : (a b : ℕ) → b ≤ bit_or a b
or_r a b = let s = or_add_and a b in let l = and_le_l a b in omega arith

under : (m n : ℕ) → m ≤ n → n < 2 ^ 59 → m < 2 ^ 59
under m n h l = omega arith

pub clear_l : (a b : ℕ) → Clear (bit_or a b) → Clear a
clear_l a b = under _ _ (rw (or_mod a b 63) (or_l (a % 2 ^ 63) (b % 2 ^ 63)))

pub clear_r : (a b : ℕ) → Clear (bit_or a b) → Clear b
clear_r a b = under _ _ (rw (or_mod a b 63) (or_r (a % 2 ^ 63) (b % 2 ^ 63)))

-- ---- the steps
pub exact_by : (r : Complex) (w : ℕ) {x y : Float} {c t d : Complex64} → x ≡ of_bits binary32 (w % 2 ^ 32) → y ≡ of_bits binary32 (w / 2 ^ 32)
    → c ≡ make64 (conjugate (record { re = x; im = y }))
    → t ≡ make64 (product binary64 r (view64 c)) → d ≡ make64 (difference binary64 (record { re = x; im = y }) (view64 t)) → view64 d ≡ exact r w
unfolding sample_of
exact_by r w {t = t} p q mirrored times less =
    let m : ◌≡◌ {A = Complex} (record { re = _; im = _ }) (sample_of w) = λ i. record { re = p i; im = q i } in
    let t' = times ∙ ap (λ s. make64 (product binary64 r (view64 s))) (mirrored ∙ ap (λ s. make64 (conjugate s)) m) in
    ap view64 (less ∙ ap (λ s. make64 (difference binary64 s (view64 t))) m ∙ ap (λ s. make64 (difference binary64 (sample_of w) (view64 s))) t')

-- the bits of two numbers d, rebased: as words p and q they give the word, if both are clear
pub tried : (r : Complex) (w : ℕ) {d : Complex64} {a b p q : ℕ} → w < 2 ^ 64 → Small r → FiniteWord w → view64 d ≡ exact r w
    → a ≡ rebased (to_bits binary64 d.re) → b ≡ rebased (to_bits binary64 d.im) → p ≡ part_bits (to_bits binary64 d.re) a
    → q ≡ part_bits (to_bits binary64 d.im) b
    → Clear (bit_or a b) → p + q * 2 ^ 32 + 0x2000_0000_2000_0000 ≡ corrected r w
tried r w {d} {a} {b} {p} {q} W s f e ea eb ep eq c =
    let n = subst (λ (z : Complex). Numbers z) (sym e) (numbers r w W s f) in
    let g = subst Clear ea (clear_l a b c) in
    let l = subst Clear eb (clear_r a b c) in
    let x = word_by d.re n.re.fit ea ep g in
    let y = word_by d.im n.im.fit eb eq l in
    joined p q
    ∙ (λ i. x i + y i * 2 ^ 32)
    ∙ ap (λ (z : Complex). pattern_cut (to_bits binary64 z.re) + pattern_cut (to_bits binary64 z.im) * 2 ^ 32) e
    ∙ word_is r w (numbers r w W s f) (subst (λ (z : Complex). T (normal_in (to_bits binary64 z.re))) e (marked _ (to_bits-lt binary64 d.re n.re.fit) g))
    (subst (λ (z : Complex). T (normal_in (to_bits binary64 z.im))) e (marked _ (to_bits-lt binary64 d.im n.im.fit) l))
  where
    joined : (p q : ℕ) → p + q * 2 ^ 32 + 0x2000_0000_2000_0000 ≡ p + 2 ^ 29 + (q + 2 ^ 29) * 2 ^ 32
    joined p q = omega arith

    word_by : (x : Float) {a p : ℕ} → T (fits binary64 x) → a ≡ rebased (to_bits binary64 x) → p ≡ part_bits (to_bits binary64 x) a
        → Clear (rebased (to_bits binary64 x)) → p + 2 ^ 29 ≡ pattern_cut (to_bits binary64 x)
    word_by x F e h c = ap (λ (n : ℕ). n + 2 ^ 29) (h ∙ ap (part_bits (to_bits binary64 x)) e) ∙ part_is (to_bits binary64 x) (to_bits-lt binary64 x F) c
