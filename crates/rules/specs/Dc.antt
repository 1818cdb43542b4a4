-- Document 01, 'DC', and its undo; document 02, R-1. Samples are words. Definitions only.
use Rattle.std.specs.Prelude.{ℕ, suc, ◌+◌, Bool, ◌&&◌, cond, List, [], ◌∷◌, pos, eqb, Float}
use Rattle.std.specs.Float.{binary64}
use Rattle.std.specs.Float.Ieee.{mul, div, lt, eq, of_int}
use Rattle.complex.specs.Complex.{Complex, sum, difference, scaled, norm, narrowed_parts, word_of, sample_of}
use Rattle.rules.specs.Constants.{zero_f, one, five, tau}
use Rattle.rules.specs.Lists.{indicator}

-- 'a = 5 times the f64 6.283185307179586, then divided by fs.'
unfoldable pub corner : Float → Float
corner fs = div binary64 (mul binary64 tau five) fs

-- the level, and how many updates it has had
pub record Level : Type 0 where
  pub updates : ℕ
  pub level : Complex

abbrev pub origin : Complex
origin = record { re = zero_f; im = zero_f }

abbrev pub first_level : Level
first_level = record { updates = 0; level = origin }

-- 'y = x − level in f64, rounded to f32.'
unfoldable pub blocked : Complex → Complex → Complex
blocked level x = narrowed_parts (difference binary64 x level)

abbrev pub larger : Float → Float → Float
larger a b = cond (lt a b) b a

-- 'max(a, 1/(n+1)), with n earlier updates'
unfoldable pub weight : Float → ℕ → Float
weight a n = larger a (div binary64 one (of_int binary64 (pos (n + 1))))

-- 'where norm(y) > 1': there, and only there, 'the limit acted' (document 02, R-1)
unfoldable pub clamps : Complex → Bool
clamps y = lt one (norm y)

-- 'y first multiplied by 1/norm(y) where norm(y) > 1'
unfoldable pub clamped : Complex → Complex
clamped y = cond (clamps y) (scaled binary64 y (div binary64 one (norm y))) y

abbrev pub is_zero : Complex → Bool
is_zero y = eq y.re zero_f && eq y.im zero_f

-- 'If no update has happened and both parts of y are zero, nothing moves. Else level += y·max(a, 1/(n+1))'
unfoldable pub advanced : Float → Level → Complex → Level
advanced a l y =
    let moved : Level = record { updates = suc l.updates; level = sum binary64 l.level (scaled binary64 (clamped y) (weight a l.updates)) } in
    cond (eqb l.updates 0 && is_zero y) l moved

-- ---- the whole input

-- one sample
unfoldable pub stepped : Float → Level → ℕ → Level
stepped a l x = advanced a l (blocked l.level (sample_of x))

-- the level after samples
unfoldable pub level_after : Float → Level → List ℕ → Level
level_after a l [] = l
level_after a l (x ∷ xs) = level_after a (stepped a l x) xs

-- 'Applying writes y'
unfoldable pub blocked_all : Float → Level → List ℕ → List ℕ
blocked_all a l [] = []
blocked_all a l (x ∷ xs) = word_of (blocked l.level (sample_of x)) ∷ blocked_all a (stepped a l x) xs

-- 'how often the update was held to full scale' (document 02, R-1)
unfoldable pub clamped_steps : Float → Level → List ℕ → ℕ
clamped_steps a l [] = 0
clamped_steps a l (x ∷ xs) = indicator (clamps (blocked l.level (sample_of x))) + clamped_steps a (stepped a l x) xs

-- ---- 'DC undo writes y + level to a second slice, the level advancing from y.'
unfoldable pub restored : Complex → Complex → Complex
restored level y = narrowed_parts (sum binary64 y level)

unfoldable pub restored_all : Float → Level → List ℕ → List ℕ
restored_all a l [] = []
restored_all a l (y ∷ ys) = word_of (restored l.level (sample_of y)) ∷ restored_all a (advanced a l (sample_of y)) ys
