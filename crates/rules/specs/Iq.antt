-- Document 01, 'IQ', with the sine and the cosine that it gives, and its undo. Samples are words. Definitions only.
use Rattle.std.specs.Prelude.{ℕ, zero, suc, ◌+◌, ◌-◌, ◌*◌, Bool, ◌&&◌, cond, pos, Float}
use Rattle.std.specs.Float.{binary64}
use Rattle.std.specs.Float.Ieee.{neg, sub, mul, div, lt, le, of_int}
use Rattle.std.specs.Float.Ieee.Scale.{finite}
use Rattle.complex.specs.Complex.{Complex, sum, difference, product, power, quotient, one_minus, one_plus, conjugate, unscaled, narrowed_parts, word_of, sample_of}
use Rattle.rules.specs.Guard.{magnitude}
use Rattle.rules.specs.Constants.{zero_f, one_half, one, two, forty_five, minus_forty_five, radians_per_degree, coefficient_margin}
use Rattle.rules.specs.Mode.{Mode, off, observe, apply}

abbrev pub whole_f : ℕ → Float
whole_f n = of_int binary64 (pos n)

-- 'u = t·t; s = 1, then for k = 8 down to 1, s = 1 − (u·s)/(2k(2k+1)); sine t·s.'
unfoldable pub sine_series : Float → ℕ → Float → Float
sine_series u zero s = s
sine_series u (suc k) s = sine_series u k (sub binary64 one (div binary64 (mul binary64 u s) (whole_f (2 * suc k * (2 * suc k + 1)))))

unfoldable pub sine : Float → Float
sine t = mul binary64 t (sine_series (mul binary64 t t) 8 one)

-- 'c = 1, then for k = 9 down to 1, c = 1 − (u·c)/((2k−1)2k); cosine c.'
unfoldable pub cosine_series : Float → ℕ → Float → Float
cosine_series u zero c = c
cosine_series u (suc k) c = cosine_series u k (sub binary64 one (div binary64 (mul binary64 u c) (whole_f ((2 * suc k - 1) * (2 * suc k)))))

unfoldable pub cosine : Float → Float
cosine t = cosine_series (mul binary64 t t) 9 one

-- ---- the calibration

pub record Calibration : Type 0 where
  pub gain : Float
  pub phase : Float
  pub centre : Float

-- both ends belong to a range
abbrev pub ranged : Float → Float → Float → Bool
ranged a b x = le a x && le x b

abbrev pub finite_positive : Float → Bool
finite_positive x = finite x && lt zero_f x

-- 'gain in 0.5..2, phase in −45..45 and finite centre above 0'
abbrev pub gain_fits : Calibration → Bool
gain_fits c = ranged one_half two c.gain

abbrev pub phase_fits : Calibration → Bool
phase_fits c = ranged minus_forty_five forty_five c.phase

abbrev pub centre_fits : Calibration → Bool
centre_fits c = finite_positive c.centre

-- ---- the coefficient

-- 'w = gain × (cosine, sine) at −phase', the phase in radians
unfoldable pub turned : Calibration → Complex
turned c =
    let t = neg (mul binary64 c.phase radians_per_degree) in
    record { re = mul binary64 c.gain (cosine t); im = mul binary64 c.gain (sine t) }

-- 'Coefficient: (1 − w)/(1 + w)'
unfoldable pub coefficient : Calibration → Complex
coefficient c = let w = turned c in quotient binary64 (one_minus binary64 w) (one_plus binary64 w)

-- 'an accepted coefficient: finite, power < 1 − 1e-12'
unfoldable pub accepted : Complex → Bool
accepted z = finite z.re && finite z.im && lt (power binary64 z) (sub binary64 one coefficient_margin)

-- ---- what the chain settles

pub data Calibrated : Type 0 where
  none : Calibrated
  with : Calibration → Calibrated

-- 'What the chain settles is one of off, observing, correcting with its coefficient, or withheld.'
pub data Settled : Type 0 where
  Off Observing : Settled
  Correcting : Complex → Settled
  Withheld : Settled

-- 'a finite receiver centre above 0 within 1.0 Hz inclusive'
unfoldable pub centres_agree : Float → Float → Bool
centres_agree calibrated receiver = finite_positive receiver && le (magnitude (sub binary64 calibrated receiver)) one

abbrev pub correctable : Calibration → Float → Bool
correctable c receiver = gain_fits c && phase_fits c && centre_fits c && centres_agree c.centre receiver

unfoldable pub settled : Mode → Calibrated → Float → Settled
settled off c receiver = Off
settled observe c receiver = Observing
settled apply none receiver = Withheld
settled apply (with c) receiver = let r = coefficient c in cond (correctable c receiver && accepted r) (Correcting r) Withheld

-- ---- correction and its undo

-- 'y = m − coefficient × conj(m) in f64, rounded once.'
unfoldable pub corrected : Complex → ℕ → ℕ
corrected r w = let m = sample_of w in word_of (narrowed_parts (difference binary64 m (product binary64 r (conjugate m))))

abbrev pub corrected_by : Settled → ℕ → ℕ
corrected_by Off w = w
corrected_by Observing w = w
corrected_by Withheld w = w
corrected_by (Correcting r) w = corrected r w

-- 'IQ undo: (y + coefficient·conj y)/(1 − power).'
unfoldable pub uncorrected : Complex → ℕ → ℕ
uncorrected r w =
    let y = sample_of w in
    word_of (narrowed_parts (unscaled binary64 (sum binary64 y (product binary64 r (conjugate y))) (sub binary64 one (power binary64 r))))
