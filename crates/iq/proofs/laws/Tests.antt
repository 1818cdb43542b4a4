-- The tests of the calibration and of the coefficient, as the code makes them. Assumes nothing.
use Rattle.std.specs.Prelude.{◌≡◌, Result, Ok, Err, is_ok, Bool, true, false, cond, not, ◌&&◌, ◌==◌, refl, Float}
use Rattle.std.proofs.Common.{sym, ap, ◌∙◌}
use Rattle.std.specs.Float.{nan, inf, fin, float_is_finite}
use Rattle.std.specs.Float.Ieee.Scale.{finite}
use Rattle.rules.specs.Answers.{number_in}
use Rattle.refusal.specs.declared.Refusal.{Refusal}
use Rattle.refusal.specs.declared.Refusal.TheVariants as why
use Rattle.refusal.specs.Words.{words_of, number_of}
use Rattle.rules.specs.Iq.{Calibration, gain_fits, phase_fits, centre_fits}
use Rattle.rules.specs.Refusals.{first_of, validation}

-- std's test is the rules'
pub finite_is : (x : Float) → float_is_finite x ≡ finite x
unfolding float_is_finite
finite_is nan = refl
finite_is (inf s) = refl
finite_is (fin s m e) = refl

-- ---- tests in a row, and the calibration's by the number of the first that fails
pub fits_by : (gain phase centre : Bool) → (gain && phase && centre) ≡ (cond (not gain) 11 (cond (not phase) 12 (cond (not centre) 13 0)) == 0)
fits_by true true true = refl
fits_by true true false = refl
fits_by true false centre = refl
fits_by false phase centre = refl

pub validation_by : (c : Calibration) (gain phase centre : Bool) → gain_fits c ≡ gain → phase_fits c ≡ phase → centre_fits c ≡ centre
    → cond (not gain) 11 (cond (not phase) 12 (cond (not centre) 13 0)) ≡ validation c
unfolding validation first_of
validation_by c gain phase centre g p z =
    sym
    (ap (λ (t : Bool). cond (not t) 11 (cond (not (phase_fits c)) 12 (cond (not (centre_fits c)) 13 0))) g
    ∙ ap (λ (t : Bool). cond (not gain) 11 (cond (not t) 12 (cond (not (centre_fits c)) 13 0))) p
    ∙ ap (λ (t : Bool). cond (not gain) 11 (cond (not phase) 12 (cond (not t) 13 0))) z)

-- what is refused has a number
number_some : (e : Refusal) → (number_in (words_of e) == 0) ≡ false
number_some why.BadRate = refl
number_some why.BadSize = refl
number_some why.BadCapacity = refl
number_some why.BadLength = refl
number_some why.BadState = refl
number_some why.Short = refl
number_some (why.OutOfRange k) = refl
number_some why.TooMany = refl
number_some why.Early = refl
number_some why.BadCoefficient = refl
number_some why.BadGain = refl
number_some why.BadPhase = refl
number_some why.BadCentre = refl
number_some why.BadHeader = refl
number_some why.BrokenTail = refl

pub valid_by : (r : Result (Unit {0}) Refusal) → is_ok r ≡ (number_of r == 0)
valid_by (Ok v) = refl
valid_by (Err e) = sym (number_some e)
