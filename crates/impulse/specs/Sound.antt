-- What number 5 tests of the stage's state, as bounds that every state reached from usable samples keeps. Definitions only.
use Rattle.std.specs.Prelude.{◌≡◌, ℕ, ◌+◌, ◌^◌, ◌≤◌, ◌<◌, min, Float, length, get_or, take, Some}
use Rattle.std.specs.Float.{binary32}
use Rattle.std.specs.Float.Ieee.{lt}
use Rattle.ieee.specs.Bound.{Within}
use Rattle.ieee.specs.Plain.{Plain}
use Rattle.complex.specs.Complex.{WordWithin}
use Rattle.rules.specs.Constants.{zero_f}
use Rattle.rules.specs.Sort.{sort}
use Rattle.rules.specs.Lists.{All}
use Rattle.rules.specs.Impulse.{Setting, width, lookahead, judged}
use Rattle.impulse.specs.declared.Run.{Run}
use Rattle.impulse.specs.declared.ImpulseSuppressor.{ImpulseSuppressor}
use Rattle.impulse.specs.State.{padded}

-- a power of the window: within 2 ^ 115, no NaN, no sign bit
abbrev pub PowerWithin : Float → Type 0
PowerWithin p = Within p (2 ^ 115) 1 × Plain binary32 p

-- m stands when n samples have come
pub record Sound (s : Setting) (n : ℕ) (m : ImpulseSuppressor) : Type 0 where
  -- the settings and the counters
  pub apply : m.gate.settings.apply ≡ s.apply
  pub blocklen : m.gate.settings.blocklen ≡ s.block
  pub received : m.gate.received ≡ n
  pub block : m.gate.block.number ≤ n
  pub flags : m.gate.block.flagged ≤ n
  -- an open run is not empty, and ends at the next sample to be judged
  pub run : (r : Run) → m.gate.mending.run ≡ Some r → (0 < r.len) × (r.start + r.len ≡ judged s n)
  -- the parts, within 1e18; the powers, within 1e36, with no sign bit
  pub left : (x : ℕ) → m.gate.mending.left ≡ Some x → WordWithin (2 ^ 59) x
  pub pending : All (WordWithin (2 ^ 59)) m.pending
  pub powers : All PowerWithin m.window
  -- the sorted list is that window sorted
  pub sorted : m.sorted ≡ padded (width s) (sort lt (take (min n (width s)) m.window))
  -- places that no sample has reached are 0
  pub no_power : (i : ℕ) → n ≤ i → i < width s → get_or m.window i zero_f ≡ zero_f
  pub no_sample : (i : ℕ) → n ≤ i → i < lookahead s → get_or m.pending i 0 ≡ 0
  -- the arrays' lengths
  pub window_length_lem : length m.window ≡ width s
  pub sorted_length : length m.sorted ≡ width s
  pub pending_length : length m.pending ≡ lookahead s
