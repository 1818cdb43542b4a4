-- Bounds of the stage's floats: usable parts are within 2 ^ 57, so a mended part is within 2 ^ 59, and a power within 2 ^ 115 with a clear sign bit. Assumes
-- nothing.
use Rattle.std.specs.Prelude.{◌≡◌, refl, false, not, ℕ, ◌+◌, ◌*◌, ◌^◌, ◌≤◌, ◌<◌, pos, T, Float}
use Rattle.std.proofs.Common.{sym, subst, arith, lit≤, lit<}
use Rattle.std.specs.Float.{nan, inf, fin, binary32}
use Rattle.std.specs.Float.Ieee.{add, sub, mul, le, of_int, of_bits, is_nan}
use Rattle.std.specs.Float.Ieee.Fits.{and_l, and_r, add-fits}
use Rattle.ieee.specs.Bound.{Within, Beyond, Value}
use Rattle.ieee.proofs.laws.Bounds.{within_mono, add_within, sub_within, mul_within, div_within, of_int_within, whole_value, scaled_value}
use Rattle.ieee.proofs.laws.LowerBounds.{fine, round_beyond}
use Rattle.complex.specs.Complex.{Complex, sum, difference, scaled, power, word_of, sample_of, NoNan, PartsWithin, WordWithin}
use Rattle.complex.proofs.laws.Words.{Parts32, sample_of_word}
use Rattle.rules.proofs.laws.SizeLaws.{size_within}
use Rattle.rules.specs.Constants.{usable_limit}
use Rattle.rules.specs.Guard.{magnitude, usable_part, usable}
use Rattle.rules.proofs.laws.SortLaws.{power_plain}
use Rattle.rules.specs.Impulse.{power_of, fraction, between}
use Rattle.impulse.specs.Sound.{PowerWithin}

-- ---- samples

limit_is : usable_limit ≡ fin false 2910383 (pos 35)
unfolding of_bits
limit_is = refl

part_within : (x : Float) → T (usable_part x) → Within x (2 ^ 57) 1
unfolding usable_part
part_within x t =
    within_mono x (2910383 * 2 ^ 35) 1 (2 ^ 57) 1 (lit< tt) (lit≤ tt)
    (size_within x 2910383 (pos 35) (subst (λ (y : Float). T (le (magnitude x) y)) limit_is t))

pub usable_within : (w : ℕ) → T (usable w) → WordWithin (2 ^ 57) w
unfolding usable
usable_within w t =
    let a = usable_part (sample_of w).re in
    let b = usable_part (sample_of w).im in
    (part_within (sample_of w).re (and_l a b t), part_within (sample_of w).im (and_r a b t))

within_no_nan : (x : Float) (a c : ℕ) → Within x a c → T (not (is_nan x))
unfolding is_nan
within_no_nan nan a c w = w
within_no_nan (inf s) a c w = tt
within_no_nan (fin s m e) a c w = tt

pub within_clean : (b w : ℕ) → WordWithin b w → NoNan (sample_of w)
within_clean b w h = record { re = within_no_nan (sample_of w).re b 1 h.0; im = within_no_nan (sample_of w).im b 1 h.1 }

pub within_more : (b c w : ℕ) → b ≤ c → WordWithin b w → WordWithin c w
within_more b c w l h =
    (within_mono (sample_of w).re b 1 c 1 (lit< tt) (omega arith) h.0, within_mono (sample_of w).im b 1 c 1 (lit< tt) (omega arith) h.1)

-- ---- a mended sample

count_beyond : (k : ℕ) → k ≤ 32 → Beyond (of_int binary32 (pos (k + 1))) (k + 1) 1
unfolding of_int
count_beyond k h =
    let v : Value binary32 (k + 1) 1 = whole_value binary32 (k + 1) (omega arith) in
    round_beyond binary32 false (k + 1) 1 (k + 1) 1 (lit< tt) (lit< tt) v (omega arith) (fine binary32 (k + 1) 1 (k + 1) 1 (lit< tt) (lit< tt) v (omega arith))

fraction_within : (t n : ℕ) → t < n → n ≤ 32 → Within (fraction t n) 1 1
fraction_within t n h k =
    div_within binary32 (of_int binary32 (pos (t + 1))) (of_int binary32 (pos (n + 1))) (t + 1) 1 (n + 1) 1 1 1 (lit< tt) (omega arith) (lit< tt)
    (whole_value binary32 1 (lit< tt)) (omega arith)
    (of_int_within binary32 (t + 1) (t + 1) (whole_value binary32 (t + 1) (omega arith)) (omega arith)) (count_beyond n k)

part_mended : (l r q : Float) → Within l (2 ^ 57) 1 → Within r (2 ^ 57) 1 → Within q 1 1
    → Within (add binary32 l (mul binary32 (sub binary32 r l) q)) (2 ^ 59) 1
part_mended l r q wl wr wq =
    let wd : Within (sub binary32 r l) (2 ^ 58) 1 =
    sub_within binary32 r l (2 ^ 57) (2 ^ 57) (2 ^ 58) 1 (lit< tt) (scaled_value binary32 1 58 (lit< tt) (lit≤ tt)) (lit≤ tt) wr wl in
    let wp : Within (mul binary32 (sub binary32 r l) q) (2 ^ 58) 1 =
    mul_within binary32 (sub binary32 r l) q (2 ^ 58) 1 1 1 (2 ^ 58) (lit< tt) (lit< tt) (scaled_value binary32 1 58 (lit< tt) (lit≤ tt)) (lit≤ tt) wd wq in
    add_within binary32 l (mul binary32 (sub binary32 r l) q) (2 ^ 57) (2 ^ 58) (2 ^ 59) 1 (lit< tt) (scaled_value binary32 1 59 (lit< tt) (lit≤ tt))
    (lit≤ tt) wl wp

between_parts : (l r : Complex) (t n : ℕ) → Parts32 (between l r t n)
unfolding between sum
between_parts l r t n =
    let m = scaled binary32 (difference binary32 r l) (fraction t n) in
    record { re = add-fits binary32 l.re m.re; im = add-fits binary32 l.im m.im }

between_within : (l r : Complex) (t n : ℕ) → t < n → n ≤ 32 → PartsWithin (2 ^ 57) l → PartsWithin (2 ^ 57) r → PartsWithin (2 ^ 59) (between l r t n)
unfolding between sum scaled difference
between_within l r t n h k wl wr =
    let q = fraction_within t n h k in
    (part_mended l.re r.re (fraction t n) wl.0 wr.0 q, part_mended l.im r.im (fraction t n) wl.1 wr.1 q)

pub mended_within : (l r t n : ℕ) → t < n → n ≤ 32 → WordWithin (2 ^ 57) l → WordWithin (2 ^ 57) r
    → WordWithin (2 ^ 59) (word_of (between (sample_of l) (sample_of r) t n))
mended_within l r t n h k wl wr =
    subst (PartsWithin (2 ^ 59)) (sym (sample_of_word (between (sample_of l) (sample_of r) t n) (between_parts (sample_of l) (sample_of r) t n)))
    (between_within (sample_of l) (sample_of r) t n h k wl wr)

-- ---- a power

pub power_within : (w : ℕ) → WordWithin (2 ^ 57) w → Within (power_of w) (2 ^ 115) 1
unfolding power_of power
power_within w h =
    let z = sample_of w in
    add_within binary32 (mul binary32 z.re z.re) (mul binary32 z.im z.im) (2 ^ 114) (2 ^ 114) (2 ^ 115) 1 (lit< tt)
    (scaled_value binary32 (2 ^ 11) 104 (lit< tt) (lit≤ tt)) (lit≤ tt)
    (square z.re h.0) (square z.im h.1)
  where
    square : (x : Float) → Within x (2 ^ 57) 1 → Within (mul binary32 x x) (2 ^ 114) 1
    square x v =
        mul_within binary32 x x (2 ^ 57) 1 (2 ^ 57) 1 (2 ^ 114) (lit< tt) (lit< tt) (scaled_value binary32 (2 ^ 10) 104 (lit< tt) (lit≤ tt)) (lit≤ tt) v v

pub power_sound : (w : ℕ) → WordWithin (2 ^ 57) w → PowerWithin (power_of w)
power_sound w h = (power_within w h, power_plain w (within_clean (2 ^ 57) w h))
