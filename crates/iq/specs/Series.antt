-- The sine's and the cosine's series as one. Definitions only.
use Rattle.std.specs.Prelude.{ℕ, zero, suc, ◌+◌, ◌-◌, ◌*◌, Float}
use Rattle.std.specs.Float.{binary64}
use Rattle.std.specs.Float.Ieee.{sub, mul, div}
use Rattle.rules.specs.Constants.{one}
use Rattle.rules.specs.Iq.{whole_f}

-- 's = 1 − (u·s)/((n−1)n)' for n = 2k + odd, k going down to 1: by 1 the sine's, by 0 the cosine's
unfoldable pub series : ℕ → Float → ℕ → Float → Float
series odd u zero s = s
series odd u (suc k) s =
    let n = 2 * suc k + odd in
    series odd u k (sub binary64 one (div binary64 (mul binary64 u s) (whole_f ((n - 1) * n))))
