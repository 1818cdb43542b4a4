-- A configuration as words, and the configuration that words say; any words say one. Definitions only.
use Rattle.std.specs.Prelude.{Option, Some, None, cond, List, [], ◌∷◌, ℕ, ◌+◌, eqb}
use Rattle.std.specs.Float.{binary64}
use Rattle.std.specs.Float.Ieee.{to_bits, of_bits}
use Rattle.impulse_pause.specs.View.{number_of, numbered}
use Rattle.iq.specs.declared.IqCalibration.{IqCalibration}
use Rattle.chain_config.specs.declared.ConditioningConfig.{ConditioningConfig}
use Rattle.chain_config.specs.Config.{config_of, observed}
use Rattle.replay_format.specs.Header.{config_from}
use Rattle.chain_words.specs.Words.{mode_word}
use Rattle.chain_words.specs.States.{word, mode_at}
use Rattle.chain_words.specs.Typed.{Double}

-- ---- where each field stands, counted from the one before

abbrev pub impulse : ℕ
impulse = 0

abbrev pub dc : ℕ
dc = impulse + 1

abbrev pub iq : ℕ
iq = dc + 1

abbrev pub rate : ℕ
rate = iq + 1

abbrev pub centre : ℕ
centre = rate + 1

abbrev pub channels : ℕ
channels = centre + 1

abbrev pub calibrated : ℕ
calibrated = channels + 1

abbrev pub gain : ℕ
gain = calibrated + 1

abbrev pub phase : ℕ
phase = gain + 1

abbrev pub calibration_centre : ℕ
calibration_centre = phase + 1

abbrev pub span_capacity : ℕ
span_capacity = calibration_centre + 1

abbrev pub repair_capacity : ℕ
repair_capacity = span_capacity + 1

abbrev pub edition : ℕ
edition = repair_capacity + 1

-- how many words there are
abbrev pub config_word_count : ℕ
config_word_count = edition + 1

-- ---- the configuration that words say

-- 0 says that there is none
abbrev pub calibration_at : ℕ → ℕ → ℕ → ℕ → Option IqCalibration
calibration_at w gain phase centre =
    cond (eqb w 0) None
    (Some (record { gain = of_bits binary64 gain; phase = of_bits binary64 phase; centre = of_bits binary64 centre }))

-- of the modes 0 is off, 1 observes, and every other applies; of the editions 2 is the second, and every other the first
unfoldable pub config_in : List ℕ → ConditioningConfig
config_in ws =
    record {
      impulse = mode_at (word ws impulse);
      dc = mode_at (word ws dc);
      iq = mode_at (word ws iq);
      fs = of_bits binary64 (word ws rate);
      centre = of_bits binary64 (word ws centre);
      n = word ws channels;
      calibration = calibration_at (word ws calibrated) (word ws gain) (word ws phase) (word ws calibration_centre);
      spans = word ws span_capacity;
      repairs = word ws repair_capacity;
      edition = numbered (word ws edition);
    }

-- ---- a configuration as words

-- whether there is one, and its numbers, which are 0 where there is none
abbrev pub calibration_parts : Option IqCalibration → ℕ × ℕ × ℕ × ℕ
calibration_parts None = (0, 0, 0, 0)
calibration_parts (Some c) = (1, to_bits binary64 c.gain, to_bits binary64 c.phase, to_bits binary64 c.centre)

abbrev pub calibration_words : Option IqCalibration → List ℕ
calibration_words c = let p = calibration_parts c in p.0 ∷ p.1 ∷ p.2 ∷ p.3 ∷ []

unfoldable pub config_words : ConditioningConfig → List ℕ
config_words g =
    let p = calibration_parts g.calibration in
    mode_word g.impulse
    ∷ mode_word g.dc
    ∷ mode_word g.iq
    ∷ to_bits binary64 g.fs
    ∷ to_bits binary64 g.centre
    ∷ g.n
    ∷ p.0
    ∷ p.1
    ∷ p.2
    ∷ p.3
    ∷ g.spans
    ∷ g.repairs
    ∷ number_of g.edition
    ∷ []

-- ---- what the types of the code say of its floats

abbrev pub CalibrationTyped : Option IqCalibration → Type 0
CalibrationTyped None = Unit {0}
CalibrationTyped (Some c) = Double c.gain × Double c.phase × Double c.centre

pub record ConfigTyped (g : ConditioningConfig) : Type 0 where
  pub fs : Double g.fs
  pub centre : Double g.centre
  pub calibration : CalibrationTyped g.calibration

-- ---- the impulse and DC stages observing where they were off

abbrev pub observed_in : List ℕ → ConditioningConfig
observed_in ws = config_from (observed (config_of (config_in ws)))
