-- Document 01's number 5, as far as it speaks of the impulse stage's arrays: the powers of the window, the pending samples, the sorted list. Definitions only.
use Rattle.std.specs.Prelude.{Bool, ◌&&◌, List, ℕ, min, eqb, get_or, take, Float}
use Rattle.std.specs.Float.{binary64}
use Rattle.std.specs.Float.Ieee.{le, lt, to_bits}
use Rattle.ieee.specs.Plain.{sign_clear}
use Rattle.rules.specs.Constants.{zero_f, power_limit}
use Rattle.rules.specs.Sort.{sort}
use Rattle.rules.specs.Guard.{magnitude}
use Rattle.rules.specs.Refusals.{within_limit}
use Rattle.rules.specs.Impulse.{window_size, lookahead_size}
use Rattle.stage_log.specs.Check.{all_to}

-- not: 'a window power not within 1e36; a window .. power with its sign bit set'
unfoldable pub power_fits : Float → Bool
power_fits p = sign_clear p && le (magnitude p) power_limit

-- 'pending .. min(21, received), window .. min(33, received)': both hold the newest of so many as the stage has received, none where it never ran.
-- The arrays are circular by sample number, so these stand in their first places. No other place is tested.
abbrev pub window_held : ℕ → ℕ
window_held received = min window_size received

abbrev pub pending_held : ℕ → ℕ
pending_held received = min lookahead_size received

-- the first n powers of a window
abbrev pub powers_fit : ℕ → List Float → Bool
powers_fit n window = all_to (λ k. power_fits (get_or window k zero_f)) n

-- the first n pending samples; not: 'a .. pending .. part not within 1e18'
abbrev pub samples_fit : ℕ → List ℕ → Bool
samples_fit n pending = all_to (λ k. within_limit (get_or pending k 0)) n

unfoldable pub arrays_fit : ℕ → List Float → List ℕ → Bool
arrays_fit received window pending = powers_fit (window_held received) window && samples_fit (pending_held received) pending

-- not: 'its sorted list not that window sorted', of n powers, bit by bit
unfoldable pub sorted_fits : ℕ → List Float → List Float → Bool
sorted_fits n window sorted = all_to (λ k. eqb (to_bits binary64 (get_or sorted k zero_f)) (to_bits binary64 (get_or (sort lt (take n window)) k zero_f))) n
