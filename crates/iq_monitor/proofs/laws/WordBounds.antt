-- Bounds of the monitor's words: a hop adds at most 2 ^ 121 to each and moves the end on by at least 2, so number 5 is not met. Assumes nothing.
use Rattle.std.specs.Prelude.{◌≡◌, refl, Bool, true, false, not, ◌&&◌, cond, ℕ, zero, suc, ◌+◌, ◌-◌, ◌*◌, ◌^◌, ◌≤◌, ◌<◌, pos, T, length, take, drop, replicate, Float}
use Rattle.std.proofs.Common.{sym, ap, ◌∙◌, subst, le_trans, mul-le-mul_right, le_of_eq, suc-mul, zero-add, mod-lt, arith, lit≤, lit<, length-append, ltb-false}
use mathlib.Core.List.{List, [], ◌∷◌, ◌++◌, map, foldl}
use Rattle.std.specs.Float.Ieee.Bits.{is_true}
use Rattle.std.specs.Float.Ieee.Fits.{and_l, and_r}
use Rattle.std.specs.Float.{nan, inf, fin, binary64}
use Rattle.std.specs.Float.Ieee.{add, sub, mul, le, of_bits, is_nan}
use Rattle.ieee.specs.Bound.{Within}
use Rattle.ieee.proofs.laws.Bounds.{within_mono, add_within, sub_within, mul_within, scaled_value}
use Rattle.ieee.proofs.laws.Order.{square_clear, add_clear}
use Rattle.ieee.specs.Plain.{sign_clear}
use Rattle.complex.specs.Complex.{Complex, power, product, sample_of, PartsWithin, WordWithin}
use Rattle.amplitude_limit.proofs.laws.LimitLaws.{first_place}
use Rattle.rules.proofs.laws.SizeLaws.{limited_part, within_size}
use Rattle.rules.proofs.laws.SortLaws.{all_append}
use Rattle.rules.specs.Constants.{zero_f, part_limit, word_limit, size_limit}
use Rattle.rules.specs.Guard.{magnitude}
use Rattle.rules.specs.Lists.{at, up_to, all_of, All}
use Rattle.rules.specs.Refusals.{within_limit, first_beyond_from}
use Rattle.rules.specs.Monitor.{Hop, hop_end, channel, mirror_of, channel_power, channel_product, total, power_sum, real_sum, imag_sum, window_start, due, next_window}
use Rattle.rules.specs.Monitor.{open_window, window_length, monitor_words}
use Rattle.iq_monitor.specs.Words.{sum_fits, power_fits, words_fit}
use Rattle.iq_monitor.proofs.laws.WordsLaws.{powers_are, others_are}
use Rattle.iq_monitor.proofs.laws.ObserveLaws.{is_some, is_next}
use Rattle.iq_monitor.specs.Hops.{Accepted, InOrder, last_end, by_rules}

-- ---- a channel

part_within : (x : Float) → T (le (magnitude x) part_limit) → Within x (2 ^ 60) 1
part_within x t = within_mono x (10 ^ 18) 1 (2 ^ 60) 1 (lit< tt) (lit≤ tt) (limited_part x t)

given : (w : ℕ) → within_limit w ≡ true → WordWithin (2 ^ 60) w
unfolding within_limit
given w e =
    let t = subst T (sym e) tt in
    let a = le (magnitude (sample_of w).re) part_limit in
    let b = le (magnitude (sample_of w).im) part_limit in
    (part_within (sample_of w).re (and_l a b t), part_within (sample_of w).im (and_r a b t))

times : (x y : Float) → Within x (2 ^ 60) 1 → Within y (2 ^ 60) 1 → Within (mul binary64 x y) (2 ^ 120) 1
times x y h k = mul_within binary64 x y (2 ^ 60) 1 (2 ^ 60) 1 (2 ^ 120) (lit< tt) (lit< tt) (scaled_value binary64 1 120 (lit< tt) (lit≤ tt)) (lit≤ tt) h k

plus : (x y : Float) → Within x (2 ^ 120) 1 → Within y (2 ^ 120) 1 → Within (add binary64 x y) (2 ^ 121) 1
plus x y h k = add_within binary64 x y (2 ^ 120) (2 ^ 120) (2 ^ 121) 1 (lit< tt) (scaled_value binary64 1 121 (lit< tt) (lit≤ tt)) (lit≤ tt) h k

minus : (x y : Float) → Within x (2 ^ 120) 1 → Within y (2 ^ 120) 1 → Within (sub binary64 x y) (2 ^ 121) 1
minus x y h k = sub_within binary64 x y (2 ^ 120) (2 ^ 120) (2 ^ 121) 1 (lit< tt) (scaled_value binary64 1 121 (lit< tt) (lit≤ tt)) (lit≤ tt) h k

power_within : (z : Complex) → PartsWithin (2 ^ 60) z → Within (power binary64 z) (2 ^ 121) 1
unfolding power
power_within z g = plus _ _ (times z.re z.re g.0 g.0) (times z.im z.im g.1 g.1)

product_within : (a b : Complex) → PartsWithin (2 ^ 60) a → PartsWithin (2 ^ 60) b → PartsWithin (2 ^ 121) (product binary64 a b)
unfolding product
product_within a b g h = (
  minus _ _ (times a.re b.re g.0 h.0) (times a.im b.im g.1 h.1),
  plus _ _ (times a.re b.im g.0 h.1) (times a.im b.re g.1 h.0),
)

within_number : (x : Float) (a c : ℕ) → Within x a c → T (not (is_nan x))
unfolding is_nan
within_number nan a c w = w
within_number (inf s) a c w = tt
within_number (fin s m e) a c w = tt

power_clear : (z : Complex) → PartsWithin (2 ^ 60) z → T (sign_clear (power binary64 z))
unfolding power
power_clear z g =
    add_clear binary64 (mul binary64 z.re z.re) (mul binary64 z.im z.im) (square_clear binary64 z.re (within_number z.re (2 ^ 60) 1 g.0))
    (square_clear binary64 z.im (within_number z.im (2 ^ 60) 1 g.1))

-- ---- a hop

-- each of its n channels is within 1e18
abbrev pub Heard : ℕ → Hop → Type 0
Heard n h = (k : ℕ) → k < n → within_limit (at h.channels k) ≡ true

pub heard : (n end : ℕ) (h : Hop) → Accepted n end h → Heard n h
heard n end h a k l =
    let e = (is_some n h.channels a.some).0 in
    let f = ltb-false (first_beyond_from 0 h.channels) (length h.channels) a.parts in
    (first_place h.channels).before k (omega arith)

mirror_below : (n k : ℕ) → k < n → mirror_of n k < n
mirror_below n k h = mod-lt (n - k) (omega arith)

-- ---- a window: after so many hops a sum is within so many times 2 ^ 121

abbrev Small : Float → Type 0
Small x = Within x (2 ^ 121) 1

zero_within : Within zero_f (0 * 2 ^ 121) 1
unfolding of_bits
zero_within = lit≤ tt

zero_clear : T (sign_clear zero_f)
unfolding of_bits
zero_clear = tt

sum_within : (n : ℕ) (f : Hop → Float) → ((h : Hop) → Heard n h → Small (f h)) → (w : List Hop) → All (Heard n) w → length w ≤ 2 ^ 52
    → Within (total (map f w)) (length w * 2 ^ 121) 1
unfolding total
sum_within n f F w g l =
    subst (λ (j : ℕ). Within (foldl (add binary64) zero_f (map f w)) (j * 2 ^ 121) 1) (zero-add (length w)) (go zero_f 0 w zero_within g (omega arith))
  where
    same : (k m : ℕ) → suc k + m ≡ k + suc m
    same k m = omega arith

    few : (k m : ℕ) → k + suc m ≤ 2 ^ 52 → suc k < 2 ^ 53
    few k m h = omega arith

    go : (x : Float) (k : ℕ) (w : List Hop) → Within x (k * 2 ^ 121) 1 → All (Heard n) w → k + length w ≤ 2 ^ 52
        → Within (foldl (add binary64) x (map f w)) ((k + length w) * 2 ^ 121) 1
    go x k [] h g l = subst (λ (j : ℕ). Within x (j * 2 ^ 121) 1) (let e : k ≡ k + 0 = omega arith in e) h
    go x k (a ∷ w) h g l =
        subst (λ (j : ℕ). Within (foldl (add binary64) (add binary64 x (f a)) (map f w)) (j * 2 ^ 121) 1) (same k (length w))
        (go (add binary64 x (f a)) (suc k) w
        (add_within binary64 x (f a) (k * 2 ^ 121) (2 ^ 121) (suc k * 2 ^ 121) 1 (lit< tt) (scaled_value binary64 (suc k) 121 (few k (length w) l) (lit≤ tt))
        (le_of_eq (sym (suc-mul k (2 ^ 121)))) h (F a g.0)) g.1 (omega arith))

sum_clear : (n : ℕ) (f : Hop → Float) → ((h : Hop) → Heard n h → T (sign_clear (f h))) → (w : List Hop) → All (Heard n) w → T (sign_clear (total (map f w)))
unfolding total
sum_clear n f F w g = go zero_f w zero_clear g
  where
    go : (x : Float) (w : List Hop) → T (sign_clear x) → All (Heard n) w → T (sign_clear (foldl (add binary64) x (map f w)))
    go x [] h g = h
    go x (a ∷ w) h g = go (add binary64 x (f a)) w (add_clear binary64 x (f a) h (F a g.0)) g.1

-- what is known of the open window w after hops of n channels, the last of which ended at `end`
pub record Sound (n end : ℕ) (w : List Hop) : Type 0 where
  pub all : All (Heard n) w
  pub room : window_start w + 2 * length w ≤ end
  pub late : end ≤ 2 ^ 48 + 512

-- within end - first times 2 ^ 122
abbrev pub Bounded : ℕ → List Hop → Float → Type 0
Bounded end w x = Within x ((end - window_start w) * 2 ^ 122) 1

module _ (n end : ℕ) (w : List Hop) (s : Sound n end w) (k : ℕ) (h : k < n) where
  widened : (x : Float) → Within x (length w * 2 ^ 121) 1 → Bounded end w x
  widened x b = within_mono x (length w * 2 ^ 121) 1 ((end - window_start w) * 2 ^ 122) 1 (lit< tt) (wider (length w) (window_start w) end s.room) b
    where
      wider : (l a e : ℕ) → a + 2 * l ≤ e → l * 2 ^ 121 * 1 ≤ (e - a) * 2 ^ 122 * 1
      wider l a e h = omega arith

  few : length w ≤ 2 ^ 52
  few = omega (arith, s.room, s.late)

  pub power_bounded : Bounded end w (power_sum w k)
  unfolding power_sum channel_power
  power_bounded = widened (power_sum w k) (sum_within n (channel_power k) (λ g p. power_within (channel g k) (given (at g.channels k) (p k h))) w s.all few)

  pub power_sign : T (sign_clear (power_sum w k))
  unfolding power_sum channel_power
  power_sign = sum_clear n (channel_power k) (λ g p. power_clear (channel g k) (given (at g.channels k) (p k h))) w s.all

  crossed : (g : Hop) → Heard n g → Small (channel_product n k g).re × Small (channel_product n k g).im
  unfolding channel_product
  crossed g p =
      product_within (channel g k) (channel g (mirror_of n k)) (given (at g.channels k) (p k h))
      (given (at g.channels (mirror_of n k)) (p (mirror_of n k) (mirror_below n k h)))

  pub real_bounded : Bounded end w (real_sum n w k)
  unfolding real_sum
  real_bounded = widened (real_sum n w k) (sum_within n (λ g. (channel_product n k g).re) (λ g p. (crossed g p).0) w s.all few)

  pub imag_bounded : Bounded end w (imag_sum n w k)
  unfolding imag_sum
  imag_bounded = widened (imag_sum n w k) (sum_within n (λ g. (channel_product n k g).im) (λ g p. (crossed g p).1) w s.all few)

-- ---- number 5's tests

-- 2 ^ 48 + 512 times 2 ^ 122 is below 1e60
fitting : (n : ℕ) (x : Float) → n ≤ 2 ^ 48 + 512 → Within x (n * 2 ^ 122) 1 → T (le (magnitude x) word_limit)
unfolding of_bits
fitting n x h b = within_size x 1401298464324817 (pos 149) (within_mono x (n * 2 ^ 122) 1 (1401298464324817 * 2 ^ 149) 1 (lit< tt) (under n h) b)
  where
    under : (n : ℕ) → n ≤ 2 ^ 48 + 512 → n * 2 ^ 122 * 1 ≤ 1401298464324817 * 2 ^ 149 * 1
    under n h = le_trans (mul-le-mul_right 1 (mul-le-mul_right (2 ^ 122) h)) (lit≤ tt)

sum_fits_lem : (x : Float) → T (le (magnitude x) word_limit) → sum_fits x ≡ true
unfolding sum_fits
sum_fits_lem x t = is_true (le (magnitude x) word_limit) t

power_fits_lem : (x : Float) → T (sign_clear x) → T (le (magnitude x) word_limit) → power_fits x ≡ true
unfolding power_fits
power_fits_lem x c t = let a = is_true (sign_clear x) c in let b = is_true (le (magnitude x) word_limit) t in λ i. a i && b i

all_and : (p : Float → Bool) (a b : List Float) → all_of p a ≡ true → all_of p b ≡ true → all_of p (a ++ b) ≡ true
unfolding all_of
all_and p [] b e f = f
all_and p (x ∷ a) b e f = go (p x) (all_of p a) e (all_and p a b)
  where
    go : (t u : Bool) → (t && u) ≡ true → (u ≡ true → all_of p b ≡ true → all_of p (a ++ b) ≡ true) → (t && all_of p (a ++ b)) ≡ true
    go true u e r = r e f
    go false u e r = e

all_up_to : (p : Float → Bool) (f : ℕ → Float) (n : ℕ) → ((i : ℕ) → i < n → p (f i) ≡ true) → all_of p (up_to f n) ≡ true
unfolding up_to all_of
all_up_to p f zero h = refl
all_up_to p f (suc n) h = all_and p (up_to f n) (f n ∷ []) (all_up_to p f n (λ i k. h i (omega arith))) (ap (λ (b : Bool). b && true) (h n (omega arith)))

all_zeros : (n : ℕ) → all_of sum_fits (replicate n zero_f) ≡ true
unfolding all_of sum_fits magnitude le of_bits
all_zeros zero = refl
all_zeros (suc n) = all_zeros n

-- THE WORDS of a sound window pass number 5's tests
pub words_fit_lem : (n end : ℕ) (w : List Hop) → Sound n end w → words_fit n (monitor_words n w) ≡ true
unfolding words_fit
words_fit_lem n end w s =
    let e : end - window_start w ≤ 2 ^ 48 + 512 = omega (arith, s.late) in
    let p : all_of power_fits (take n (monitor_words n w)) ≡ true = ap (all_of power_fits) (powers_are n w)
    ∙ all_up_to power_fits (power_sum w) n
    (λ k h. power_fits_lem (power_sum w k) (power_sign n end w s k h) (fitting (end - window_start w) (power_sum w k) e (power_bounded n end w s k h))) in
    let r = all_up_to sum_fits (real_sum n w) n
    (λ k h. sum_fits_lem (real_sum n w k) (fitting (end - window_start w) (real_sum n w k) e (real_bounded n end w s k h))) in
    let m = all_up_to sum_fits (imag_sum n w) n
    (λ k h. sum_fits_lem (imag_sum n w k) (fitting (end - window_start w) (imag_sum n w k) e (imag_bounded n end w s k h))) in
    let o : all_of sum_fits (drop n (monitor_words n w)) ≡ true = ap (all_of sum_fits) (others_are n w)
    ∙ all_and sum_fits (up_to (real_sum n w) n) (up_to (imag_sum n w) n ++ replicate n zero_f) r
    (all_and sum_fits (up_to (imag_sum n w) n) (replicate n zero_f) m (all_zeros n)) in
    λ i. p i && o i

-- ---- accepted hops keep a window sound

start_of : (w : List Hop) (h : Hop) (end : ℕ) → window_start w + 2 * length w ≤ end → end ≤ h.start → window_start (w ++ (h ∷ [])) + 2 * length w ≤ h.start
start_of [] h end r e = omega arith
start_of (g ∷ w) h end r e = omega arith

pub sound_next : (n enough end : ℕ) (w : List Hop) (h : Hop) → n ≤ size_limit → Accepted n end h → Sound n end w → Sound n (hop_end n h) (next_window n enough w h)
sound_next n enough end w h big a s = go (due n enough w h)
  where
    next : (h.start ≤ 2 ^ 48) × (end ≤ h.start)
    next = is_next end h.start a.start

    wide : 8 ≤ n
    wide = (is_some n h.channels a.some).1

    go : (t : Bool) → Sound n (hop_end n h) (cond t [] (w ++ (h ∷ [])))
    go true = record { all = tt; room = omega arith; late = omega (arith, next.0, big) }
    go false =
        record {
          all = all_append (Heard n) w (h ∷ []) s.all (heard n end h a, tt);
          room = let l = length-append w (h ∷ []) in let r = start_of w h end s.room next.1 in omega (arith, wide);
          late = omega (arith, next.0, big);
        }

pub sound_hops : (n enough end : ℕ) (w hs : List Hop) → n ≤ size_limit → InOrder n end hs → Sound n end w → Sound n (last_end n end hs) (open_window n enough w hs)
unfolding last_end open_window
sound_hops n enough end w [] big o s = s
sound_hops n enough end w (h ∷ hs) big o s = sound_hops n enough (hop_end n h) (next_window n enough w h) hs big o.1 (sound_next n enough end w h big o.0 s)

pub sound_none : (n : ℕ) → Sound n 0 []
sound_none n = record { all = tt; room = lit≤ tt; late = lit≤ tt }

-- what number 5 asks of the monitor after hops: the words, the window's start and the end, a counter
pub record NoFive (fs : Float) (n : ℕ) (hs : List Hop) : Type 0 where
  pub words : words_fit n (by_rules fs n [] 0 hs).words ≡ true
  pub first : window_start (open_window n (window_length fs) [] hs) ≤ last_end n 0 hs
  pub end : last_end n 0 hs ≤ 2 ^ 52

-- NUMBER 5 IS NOT MET after any list of accepted hops
pub no_five : (fs : Float) (n : ℕ) (hs : List Hop) → n ≤ size_limit → InOrder n 0 hs → NoFive fs n hs
no_five fs n hs big o =
    let w = open_window n (window_length fs) [] hs in
    let s = sound_hops n (window_length fs) 0 [] hs big o (sound_none n) in
    record { words = words_fit_lem n (last_end n 0 hs) w s; first = omega (arith, s.room); end = omega (arith, s.late) }
