-- The ordered window: an array of w powers, those of the window in front, ascending, and then zeros. Definitions only.
use Rattle.std.specs.Prelude.{cond, ℕ, ◌+◌, ◌-◌, ltb, pos, length, take, drop, Float}
use mathlib.Core.List.{List, ◌++◌, foldl}
use Rattle.std.specs.Float.{binary64}
use Rattle.std.specs.Float.Ieee.{add, div, lt, of_int}
use Rattle.rules.specs.Constants.{zero_f}
use Rattle.rules.specs.Sort.{insert, remove}

-- power p comes as the i-th (from 0), and once the window is full the oldest, `old`, goes
unfoldable pub ordered : ℕ → ℕ → Float → Float → List Float → List Float
ordered w i old p l = cond (ltb i w) (insert lt p (take i l) ++ drop (i + 1) l) (insert lt p (take (w - 1) (remove lt old l)))

-- summed in their order in f64, and divided by their number
unfoldable pub mean : List Float → Float
mean l = div binary64 (foldl (add binary64) zero_f l) (of_int binary64 (pos (length l)))
