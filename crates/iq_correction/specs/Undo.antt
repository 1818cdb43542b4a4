-- What IQ undo answers and writes. Definitions only.
use Rattle.std.specs.Prelude.{ℕ, cond, List, map, ◌==◌, Float}
use Rattle.std.specs.Float.{binary64}
use Rattle.std.specs.Float.Ieee.{sub}
use Rattle.complex.specs.Complex.{Complex, sum, product, power, conjugate, unscaled, narrowed_parts, word_of, sample_of}
use Rattle.rules.specs.Constants.{one}
use Rattle.rules.specs.Iq.{uncorrected}
use Rattle.rules.specs.Refusals.{iq_undo_refusal, first_beyond_from}
use Rattle.amplitude_limit.specs.Limit.{returned}

-- '1 minus the coefficient's power'
abbrev pub divisor_of : Complex → Float
divisor_of r = sub binary64 one (power binary64 r)

-- (y + coefficient·conj y) divided by any d; document 01's d is 1 − power
unfoldable pub uncorrected_by : Complex → Float → ℕ → ℕ
uncorrected_by r d w = let y = sample_of w in word_of (narrowed_parts (unscaled binary64 (sum binary64 y (product binary64 r (conjugate y))) d))

-- what the table returns: 'IQ undo: 10, 7'
unfoldable pub undo_returned : Complex → List ℕ → List ℕ
undo_returned r ys = returned (iq_undo_refusal r ys) (first_beyond_from 0 ys)

-- the slice: all of it undone, or as it was
unfoldable pub undo_words : Complex → List ℕ → List ℕ
undo_words r ys = cond (iq_undo_refusal r ys == 0) (map (uncorrected r) ys) ys
