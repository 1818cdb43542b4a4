-- What `root` gives. Definitions only.
use Rattle.std.specs.Prelude.{◌≡◌, ℕ, zero, suc, ◌+◌, ◌*◌, ◌/◌, ◌^◌, ◌<◌, ◌≤◌, true, false, cond, nat_le, Float}
use Rattle.std.specs.Float.{nan, inf, fin, binary64}
use Rattle.std.specs.Float.Ieee.{up, down, size, round}

-- The integer square root, by pairs of binary digits: the largest r with r * r ≤ n, for an n of at most d pairs.
unfoldable pub isqrt_in : ℕ → ℕ → ℕ
isqrt_in zero n = zero
isqrt_in (suc d) n = let r = isqrt_in d (n / 4) * 2 in cond (nat_le ((r + 1) * (r + 1)) n) (r + 1) r

unfoldable pub isqrt : ℕ → ℕ
unfolding isqrt_in
isqrt n = isqrt_in (size n) n

-- g is half of the digits R of the root of w * 2 ^ 44, rounded up.
pub record HalfRoot (w g : ℕ) : Type 0 where
  pub R : ℕ
  pub low : R * R ≤ w * 2 ^ 44
  pub high : w * 2 ^ 44 < (R + 1) * (R + 1)
  pub half : g ≡ (R + 1) / 2

-- IEEE 754's squareRoot at binary64, rounding to nearest, ties to even. `rooted_nearest` says that it is the nearest.
-- Of a number above zero, n is how many of the format's smallest values, 2 ^ -1074, it is. So its root is √n * 2 ^ -537, and isqrt (n * 4 ^ 64) of 2 ^ -601 are
-- the root cut down.
-- What is half a 2 ^ -601 above that rounds as the root does: the format's values there and the middles between two of them are whole numbers of 2 ^ -590, and
-- no root is such a middle.
unfoldable pub rooted : Float → Float
unfolding isqrt
rooted nan = nan
rooted (inf true) = nan
rooted (inf false) = inf false
rooted (fin s zero e) = fin s zero e
rooted (fin true (suc m) e) = nan
rooted (fin false (suc m) e) = round binary64 false (2 * isqrt (suc m * up e * 2 ^ 1074 / down e * 4 ^ 64) + 1) (2 ^ 602)
