-- The monitor's lent words: n powers, n real and n imaginary product sums, n for sorting. A hop added to them, and number 5's tests. Definitions only.
use Rattle.std.specs.Prelude.{◌≡◌, Bool, ◌&&◌, List, ℕ, zero, suc, ◌+◌, ◌*◌, ◌≤◌, length, get_or, set, take, drop, Float}
use Rattle.std.specs.Float.{nan, binary64}
use Rattle.std.specs.Float.Ieee.{add, le}
use Rattle.ieee.specs.Plain.{sign_clear}
use Rattle.complex.specs.Complex.{Complex, product, power, sample_of}
use Rattle.rules.specs.Constants.{zero_f, word_limit, size_limit}
use Rattle.rules.specs.Guard.{magnitude}
use Rattle.rules.specs.Lists.{at, all_of}
use Rattle.rules.specs.Monitor.{mirror_of, channel_width}
use Rattle.rules.specs.Refusals.{first_beyond_from}

-- the lent words of n channels. A fact and no struct: the words are lent for each hop anew, and a struct would hold that loan
abbrev pub LentWords : ℕ → List Float → Type 0
LentWords n ws = (length ws ≡ channel_width * n) × (n ≤ size_limit)

-- no channel of a hop is out of range
abbrev pub Within : List ℕ → Type 0
Within xs = first_beyond_from 0 xs ≡ length xs

-- x more in the word at i
abbrev pub more : List Float → ℕ → Float → List Float
more ws i x = set ws i (add binary64 (get_or ws i nan) x)

abbrev pub power_in : List ℕ → ℕ → Float
power_in xs k = power binary64 (sample_of (at xs k))

abbrev pub product_in : List ℕ → ℕ → Complex
product_in xs k = product binary64 (sample_of (at xs k)) (sample_of (at xs (mirror_of (length xs) k)))

-- a power and a product added to the words of channel k, of n, and its sorting word cleared
unfoldable pub added_terms : ℕ → List Float → ℕ → Float → Complex → List Float
added_terms n ws k p c = set (more (more (more ws k p) (n + k) c.re) (2 * n + k) c.im) (3 * n + k) zero_f

-- the channel k of the hop xs added
abbrev pub added_channel : List ℕ → List Float → ℕ → List Float
added_channel xs ws k = added_terms (length xs) ws k (power_in xs k) (product_in xs k)

-- the first k channels
unfoldable pub added_hop : List ℕ → List Float → ℕ → List Float
added_hop xs ws zero = ws
added_hop xs ws (suc k) = added_channel xs (added_hop xs ws k) k

-- ---- number 5: 'a monitor word not within 1e60', 'a window or channel power with its sign bit set'

unfoldable pub sum_fits : Float → Bool
sum_fits x = le (magnitude x) word_limit

unfoldable pub power_fits : Float → Bool
power_fits x = sign_clear x && le (magnitude x) word_limit

unfoldable pub words_fit : ℕ → List Float → Bool
words_fit n ws = all_of power_fits (take n ws) && all_of sum_fits (drop n ws)
