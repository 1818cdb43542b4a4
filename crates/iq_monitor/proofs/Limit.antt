-- What is within the limit on a channel's parts is no NaN. Assumes nothing.
use mathlib.Core.Path.{◌≡◌, sym, subst}
use mathlib.Core.Bool.{not}
use mathlib.Core.List.{List}
use Prim.Native.Nat.{ℕ, ◌<◌}
use native.Mathlib.Omega.{arith}
use lib.Dec.{T}
use lib.ListN.{length, get_or}
use lib.Ieee.{Float, nan, inf, fin, le, is_nan}
use lib.Ieee.Fits.{and_l, and_r}
use Rattle.complex.specs.Complex.{sample_of, NoNan}
use Rattle.rules.specs.Constants.{part_limit}
use Rattle.rules.specs.Guard.{magnitude}
use Rattle.rules.specs.Refusals.{within_limit, first_beyond_from}
use Rattle.amplitude_limit.proofs.laws.LimitLaws.{first_place}

limited_number : (x : Float) → T (le (magnitude x) part_limit) → T (not (is_nan x))
unfolding magnitude le is_nan
limited_number nan t = t
limited_number (inf s) t = tt
limited_number (fin s m e) t = tt

pub within_number : (ws : List ℕ) (k : ℕ) → first_beyond_from 0 ws ≡ length ws → k < length ws → NoNan (sample_of (get_or ws k 0))
unfolding within_limit
within_number ws k e h =
    let w = get_or ws k 0 in
    let t = subst T (sym ((first_place ws).before k (omega arith))) tt in
    record {
      re = limited_number (sample_of w).re (and_l (le (magnitude (sample_of w).re) part_limit) (le (magnitude (sample_of w).im) part_limit) t);
      im = limited_number (sample_of w).im (and_r (le (magnitude (sample_of w).re) part_limit) (le (magnitude (sample_of w).im) part_limit) t);
    }
