-- Document 01, 'Impulse': the stage's rules for a whole input, as functions of an index. Samples are words and numbered from 0. No state. Definitions only.
use Rattle.std.specs.Prelude.{Bool, true, false, cond, not, ◌&&◌, ◌||◌, ℕ, zero, suc, ◌+◌, ◌*◌, ◌-◌, ◌/◌, ◌≤◌, ◌<◌, min, ◌≡◌, ltb, leb, eqb, pos, length, take, drop, Float}
use mathlib.Core.List.{List, [], ◌∷◌, ◌++◌, map, foldl}
use Rattle.std.specs.Float.{binary32, binary64}
use Rattle.std.specs.Float.Ieee.{add, mul, div, lt, of_int}
use Rattle.ieee.specs.Whole.{round_div, whole_by}
use Rattle.complex.specs.Complex.{Complex, sum, difference, scaled, power, word_of, sample_of}
use Rattle.rules.specs.Constants.{zero_f, impulse_ratio}
use Rattle.rules.specs.Lists.{up_to, count, at}
use Rattle.rules.specs.Sort.{sort}
use Rattle.rules.specs.Pauses.{Edition, paused}

-- ---- the setting: half window, longest run, trim; the block length; whether the stage applies or observes

pub record Setting : Type 0 where
  pub half : ℕ
  pub run : ℕ
  pub trim : ℕ
  pub block : ℕ
  pub apply : Bool

abbrev pub width : Setting → ℕ
width s = s.half + s.half + 1

abbrev pub lookahead : Setting → ℕ
lookahead s = s.half + s.run + 1

-- 'half window 16, window 33, trim 8, longest run 4, lookahead 21': the standard setting's numbers, whatever its block length and mode

abbrev pub half_window : ℕ
half_window = 16

abbrev pub trim_size : ℕ
trim_size = 8

abbrev pub longest_run : ℕ
longest_run = 4

abbrev pub standard : ℕ → Bool → Setting
standard block apply = record { half = half_window; run = longest_run; trim = trim_size; block = block; apply = apply }

abbrev pub window_size : ℕ
window_size = width (standard 0 true)

abbrev pub lookahead_size : ℕ
lookahead_size = lookahead (standard 0 true)

-- the settings that what follows is shown for
pub record Offered (s : Setting) : Type 0 where
  pub shortest : 1 ≤ s.run
  pub longest : s.run ≤ 8
  pub trims : s.trim ≡ 2 * s.run
  pub least : s.trim ≤ s.half
  pub most : s.half ≤ 32
  pub blocks : 0 < s.block

-- ---- the reference and the flag

-- 'Sample j is judged when j+16 arrives.' Of n samples so many are.
abbrev pub judged : Setting → ℕ → ℕ
judged s n = n - s.half

-- the next to be judged by the standard setting, of so many received
abbrev pub next_judged : ℕ → ℕ
next_judged received = judged (standard 0 true) received

-- 'powers are f32'
unfoldable pub power_of : ℕ → Float
power_of w = power binary32 (sample_of w)

-- 'Its window is samples j−16 to j+16, cut at 0', and at the last sample; the powers of these
abbrev pub window : Setting → List ℕ → ℕ → List Float
window s xs j = map power_of (drop (j - s.half) (take (j + s.half + 1) xs))

-- 'Sort ascending, drop the 8 strongest, sum the rest in that order in f64, divide by their number: the reference.'
unfoldable pub reference : Setting → List Float → Float
reference s w =
    let rest = take (length w - s.trim) (sort lt w) in
    div binary64 (foldl (add binary64) zero_f rest) (of_int binary64 (pos (length rest)))

-- 'j is flagged exactly if reference > 0 and power > 144 × reference.'
unfoldable pub stands_out : Float → Float → Bool
stands_out r p = lt zero_f r && lt (mul binary64 impulse_ratio r) p

unfoldable pub flagged : Setting → List ℕ → ℕ → Bool
flagged s xs j = stands_out (reference s (window s xs j)) (power_of (at xs j))

-- ---- blocks; from here on by any flags F

-- 'block length, fs rounded half away from zero'
unfoldable pub block_length : Float → ℕ
block_length fs = whole_by round_div fs

-- 'Block of j: j divided by block length'
abbrev pub block_of : Setting → ℕ → ℕ
block_of s j = j / s.block

-- the block of the newest judged sample, when j are judged
abbrev pub newest_block : Setting → ℕ → ℕ
newest_block s j = block_of s (j - 1)

-- the flagged of block b among the first j samples
abbrev pub flags_in : Setting → (ℕ → Bool) → ℕ → ℕ → ℕ
flags_in s F b j = count F (b * s.block) (j - b * s.block)

-- ---- what happens when j is judged, by any paused blocks P: Log says what each of these marks

pub data Event : Type 0 where
  -- sample j lies in a paused block
  uncertain : ℕ → Event
  -- a run's start and length, and whether it was a long one
  kept : ℕ → ℕ → Bool → Event
  -- a run's start and length, and its originals
  mended : ℕ → ℕ → List ℕ → Event

-- 'Each judged j of a paused block is marked Uncertain.'
abbrev pub doubt_at : Setting → (ℕ → Bool) → ℕ → List Event
doubt_at s P j = cond (P (block_of s j)) (uncertain j ∷ []) []

-- ---- runs

-- how many flagged samples stand right before j
unfoldable pub before : (ℕ → Bool) → ℕ → ℕ
before F zero = 0
before F (suc j) = let more = suc (before F j) in cond (F j) more 0

-- the first of them
abbrev pub start : (ℕ → Bool) → ℕ → ℕ
start F j = j - before F j

-- 'A run of flagged samples ends at the next unflagged one, its right neighbour.' One ends at j.
abbrev pub closes : (ℕ → Bool) → ℕ → Bool
closes F j = not (F j) && ltb 0 (before F j)

-- 'with any sample in a paused block': one of the n from a on
unfoldable pub touches : Setting → (ℕ → Bool) → ℕ → ℕ → Bool
touches s P a zero = false
touches s P a (suc n) = touches s P a n || P (block_of s (a + n))

-- applying, not over 4, and with no sample in a paused block
abbrev pub mendable : Setting → Bool → ℕ → Bool
mendable s touched n = s.apply && (leb n s.run && not touched)

-- 'Over 4: marked Flagged, long-run count plus 1. Else, observing or with any sample in a paused block: Flagged. Else' it is mended.
-- Of a run of n samples from a on.
abbrev pub ending : Setting → Bool → ℕ → ℕ → List ℕ → Event
ending s touched a n originals = cond (mendable s touched n) (mended a n originals) (kept a n (ltb s.run n))

-- the run that ends at j, if one does: 'A run still open is unmarked.'
abbrev pub end_at : Setting → (ℕ → Bool) → (ℕ → Bool) → List ℕ → ℕ → List Event
end_at s F P xs j =
    let a = start F j in
    let n = before F j in
    cond (closes F j) (ending s (touches s P a n) a n (take n (drop a xs)) ∷ []) []

-- all that happens when j is judged, and when the first j are
unfoldable pub events_at : Setting → (ℕ → Bool) → (ℕ → Bool) → List ℕ → ℕ → List Event
events_at s F P xs j = doubt_at s P j ++ end_at s F P xs j

unfoldable pub events : Setting → (ℕ → Bool) → (ℕ → Bool) → List ℕ → ℕ → List Event
events s F P xs zero = []
events s F P xs (suc j) = events s F P xs j ++ events_at s F P xs j

-- ---- mending

-- '(t+1)/(len+1)' in f32
abbrev pub fraction : ℕ → ℕ → Float
fraction t n = div binary32 (of_int binary32 (pos (t + 1))) (of_int binary32 (pos (n + 1)))

-- 'each sample t (0 first) becomes left + (right − left) × ((t+1)/(len+1)) in f32'
unfoldable pub between : Complex → Complex → ℕ → ℕ → Complex
between left right t n = sum binary32 left (scaled binary32 (difference binary32 right left) (fraction t n))

-- 'left is the last raw unflagged sample before, or right if none': of a run that starts at a it stands right before a
abbrev pub left_of : List ℕ → ℕ → ℕ → ℕ
left_of xs a right = cond (eqb a 0) right (at xs (a - 1))

-- sample k of the run that ends at j, mended
unfoldable pub mended_at : (ℕ → Bool) → List ℕ → ℕ → ℕ → ℕ
mended_at F xs j k = word_of (between (sample_of (left_of xs (start F j) (at xs j))) (sample_of (at xs j)) (k - start F j) (before F j))

-- the run that ends at j is mended
unfoldable pub mends : Setting → (ℕ → Bool) → (ℕ → Bool) → ℕ → Bool
mends s F P j = closes F j && mendable s (touches s P (start F j) (before F j)) (before F j)

-- where the run that k lies in ends: at the first from k on that is not flagged, or nowhere before J
unfoldable pub end_from : (ℕ → Bool) → ℕ → ℕ → ℕ
end_from F zero k = k
end_from F (suc t) k = let later = end_from F t (suc k) in cond (F k) later k

-- sample k when J are judged: mended if it lies in a run that is mended, else raw
unfoldable pub mended_or_raw : Setting → (ℕ → Bool) → (ℕ → Bool) → List ℕ → ℕ → ℕ → ℕ
mended_or_raw s F P xs J k =
    let j = end_from F (J - k) k in
    cond (F k && (ltb j J && mends s F P j)) (mended_at F xs j k) (at xs k)

-- k lies in the run that ends at j
abbrev pub covers : (ℕ → Bool) → ℕ → ℕ → Bool
covers F j k = leb (start F j) k && ltb k j

-- the same, `mended_or_raw`, by the runs that end before J, one after the other (`value_is` in Values)
unfoldable pub value : Setting → (ℕ → Bool) → (ℕ → Bool) → List ℕ → ℕ → ℕ → ℕ
value s F P xs zero k = at xs k
value s F P xs (suc j) k = let raw = value s F P xs j k in cond (mends s F P j && covers F j k) (mended_at F xs j k) raw

-- ---- the whole input, by the edition that each block begins with

abbrev pub paused_in : Setting → (ℕ → Edition) → List ℕ → ℕ → Bool
paused_in s E xs = paused E s.block (flagged s xs)

-- all that happened
unfoldable pub happened : Setting → (ℕ → Edition) → List ℕ → List Event
happened s E xs = events s (flagged s xs) (paused_in s E xs) xs (judged s (length xs))

-- 'If applying, sample k is released when k+21 arrives, otherwise with its own call.'
unfoldable pub handed_on : Setting → (ℕ → Edition) → List ℕ → List ℕ
handed_on s E xs = cond s.apply (up_to (value s (flagged s xs) (paused_in s E xs) xs (judged s (length xs))) (length xs - lookahead s)) xs

-- 'held min(21, seen) if impulse applies, else 0'
abbrev pub held : Setting → ℕ → ℕ
held s seen = cond s.apply (min (lookahead s) seen) 0
