-- Document 01, 'Mirror monitor': the evidence of a list of hops, as a function of the whole list. Channels are words. Definitions only.
use Rattle.std.specs.Prelude.{Bool, ◌&&◌, cond, ℕ, zero, suc, ◌+◌, ◌-◌, ◌/◌, ◌%◌, max, ltb, leb, length, get_or, replicate, Float}
use mathlib.Core.List.{List, [], ◌∷◌, ◌++◌, map, foldl}
use Rattle.std.specs.Float.{binary64}
use Rattle.std.specs.Float.Ieee.{add, mul, div, lt, le}
use Rattle.ieee.specs.Whole.{ceil_div, whole_by}
use Rattle.complex.specs.Complex.{Complex, product, power, sample_of}
use Rattle.rules.specs.Constants.{zero_f, one_half, one, five, thousand, mirror_ratio}
use Rattle.rules.specs.Lists.{at, up_to}
use Rattle.rules.specs.Log.{Span, span_of}
use Rattle.rules.specs.Sort.{sort}

pub record Hop : Type 0 where
  pub start : ℕ
  pub channels : List ℕ

-- 'hop = n/4': a hop covers so many new samples
abbrev pub hop_length : ℕ → ℕ
hop_length n = n / 4

abbrev pub hop_end : ℕ → Hop → ℕ
hop_end n h = h.start + hop_length n

-- 'channel (n−k) mod n'
abbrev pub mirror_of : ℕ → ℕ → ℕ
mirror_of n k = (n - k) % n

abbrev pub channel : Hop → ℕ → Complex
channel h k = sample_of (at h.channels k)

-- ---- 'Each hop adds each channel's power and its product with channel (n−k) mod n, in f64.'

unfoldable pub channel_power : ℕ → Hop → Float
channel_power k h = power binary64 (channel h k)

unfoldable pub channel_product : ℕ → ℕ → Hop → Complex
channel_product n k h = product binary64 (channel h k) (channel h (mirror_of n k))

-- added in order
unfoldable pub total : List Float → Float
total l = foldl (add binary64) zero_f l

-- the words of channel k after the hops w of a window, oldest first
unfoldable pub power_sum : List Hop → ℕ → Float
power_sum w k = total (map (channel_power k) w)

unfoldable pub real_sum : ℕ → List Hop → ℕ → Float
real_sum n w k = total (map (λ h. (channel_product n k h).re) w)

unfoldable pub imag_sum : ℕ → List Hop → ℕ → Float
imag_sum n w k = total (map (λ h. (channel_product n k h).im) w)

-- ---- a report, from a window's sums

-- 'Eligible: k > 2, k+2 < n, |k − n/2| > 2 (whole division)'
abbrev pub eligible : ℕ → ℕ → Bool
eligible n k = ltb 2 k && ltb (k + 2) n && ltb 2 ((k - n / 2) + (n / 2 - k))

pub data Choice : Type 0 where
  nobody : Choice
  channel_at : ℕ → Choice

-- 'the strongest wins, equals to the greatest k'
abbrev pub stronger : (ℕ → Float) → Choice → ℕ → Choice
stronger P nobody k = channel_at k
stronger P (channel_at j) k = cond (lt (P k) (P j)) (channel_at j) (channel_at k)

-- among the first m channels
unfoldable pub strongest : ℕ → (ℕ → Float) → ℕ → Choice
strongest n P zero = nobody
strongest n P (suc k) = let best = strongest n P k in cond (eligible n k) (stronger P best k) best

-- 'Floor: half the sum of sorted places (n−1)/2 and n/2.'
unfoldable pub floor_of : List Float → Float
floor_of ps =
    let s = sort lt ps in
    mul binary64 (add binary64 (get_or s ((length ps - 1) / 2) zero_f) (get_or s (length ps / 2) zero_f)) one_half

abbrev pub clamped_to_one : Float → Float
clamped_to_one x = cond (lt x zero_f) zero_f (cond (lt one x) one x)

-- 'Coherence: cross power/(p·q) clamped to 0..1, or 0 if p·q is 0.'
unfoldable pub coherence_of : Complex → Float → Float → Float
coherence_of c p q = let d = mul binary64 p q in cond (lt zero_f d) (clamped_to_one (div binary64 (power binary64 c) d)) zero_f

-- 'Suspected: p, q > 0, p ≥ 1000·floor, q ≥ 10^0.6·floor, q ≤ p.'
unfoldable pub suspicious : Float → Float → Float → Bool
suspicious f p q = lt zero_f p && lt zero_f q && le (mul binary64 thousand f) p && le (mul binary64 mirror_ratio f) q && le q p

pub record Report : Type 0 where
  pub start : ℕ
  pub end : ℕ
  pub suspected : Bool
  pub coherence : Float
  pub floor : Float
  pub strongest : Float
  pub mirror : Float

-- the strongest power p, its mirror's q, and the coherence; 'none gives p, q and coherence 0'
pub record Pair : Type 0 where
  pub p : Float
  pub q : Float
  pub coherence : Float

abbrev pub pair_of : ℕ → (ℕ → Float) → (ℕ → Complex) → Choice → Pair
pair_of n P C nobody = record { p = zero_f; q = zero_f; coherence = zero_f }
pair_of n P C (channel_at k) = record { p = P k; q = P (mirror_of n k); coherence = coherence_of (C k) (P k) (P (mirror_of n k)) }

-- from the powers, the products and the window's ends
unfoldable pub reported : ℕ → List Float → (ℕ → Complex) → ℕ → ℕ → Report
reported n ps C first end =
    let P : ℕ → Float = λ k. get_or ps k zero_f in
    let pair = pair_of n P C (strongest n P n) in
    let floor = floor_of ps in
    record {
      start = first;
      end = end;
      suspected = suspicious floor pair.p pair.q;
      coherence = pair.coherence;
      floor = floor;
      strongest = pair.p;
      mirror = pair.q;
    }

-- ---- windows: the hops since the last report

-- 'max(1, ceiling of 5·fs)'
unfoldable pub window_length : Float → ℕ
window_length fs = max 1 (whole_by ceil_div (mul binary64 five fs))

-- where a window starts
abbrev pub window_start : List Hop → ℕ
window_start [] = 0
window_start (h ∷ hs) = h.start

-- 'When end − first ≥ max(1, ceiling of 5·fs), it reports': the hop h is the newest of the window w, and `enough` is that length
abbrev pub due : ℕ → ℕ → List Hop → Hop → Bool
due n enough w h = leb enough (hop_end n h - window_start (w ++ (h ∷ [])))

abbrev pub report_of : ℕ → List Hop → Hop → Report
report_of n w h =
    let all = w ++ (h ∷ []) in
    reported n (up_to (power_sum all) n) (λ k. record { re = real_sum n all k; im = imag_sum n all k }) (window_start all) (hop_end n h)

-- what an accepted hop is answered by
pub data Answer : Type 0 where
  no_report : Answer
  report : Report → Answer

-- the answer to the hop h, after the hops w of the window that is open
abbrev pub answer_to : ℕ → ℕ → List Hop → Hop → Answer
answer_to n enough w h = cond (due n enough w h) (report (report_of n w h)) no_report

-- 'it reports and starts afresh'
abbrev pub next_window : ℕ → ℕ → List Hop → Hop → List Hop
next_window n enough w h = cond (due n enough w h) [] (w ++ (h ∷ []))

-- the answers to hops, and the window that is open after them
unfoldable pub answers : ℕ → ℕ → List Hop → List Hop → List Answer
answers n enough w [] = []
answers n enough w (h ∷ hs) = answer_to n enough w h ∷ answers n enough (next_window n enough w h) hs

unfoldable pub open_window : ℕ → ℕ → List Hop → List Hop → List Hop
open_window n enough w [] = w
open_window n enough w (h ∷ hs) = open_window n enough (next_window n enough w h) hs

-- the words for each channel: '4·n'
abbrev pub channel_width : ℕ
channel_width = 4

-- 'Its lent f64 words are n powers, n real and n imaginary product sums, and n for sorting that an accepted hop leaves 0; a report leaves all 0.'
unfoldable pub monitor_words : ℕ → List Hop → List Float
monitor_words n w = up_to (power_sum w) n ++ (up_to (real_sum n w) n ++ (up_to (imag_sum n w) n ++ replicate n zero_f))

-- the suspected windows, as spans
abbrev pub suspected_span : Answer → List Span
suspected_span no_report = []
suspected_span (report r) = cond r.suspected (span_of r.start (r.end - r.start) ∷ []) []

unfoldable pub suspected_spans : List Answer → List Span
suspected_spans [] = []
suspected_spans (a ∷ rest) = suspected_span a ++ suspected_spans rest
