-- A configuration's words say that configuration. Assumes nothing.
use Rattle.std.specs.Prelude.{◌≡◌, refl, Option, Some, None}
use Rattle.iq.specs.declared.IqCalibration.{IqCalibration}
use Rattle.chain_config.specs.declared.ConditioningConfig.{ConditioningConfig}
use Rattle.chain_words.proofs.laws.Again.{mode_again, edition_again, double_again}
use Rattle.vatgorge.specs.Config.{calibration_at, calibration_parts, config_in, config_words, CalibrationTyped, ConfigTyped}

calibration_again : (k : Option IqCalibration) → CalibrationTyped k → (let p = calibration_parts k in calibration_at p.0 p.1 p.2 p.3) ≡ k
calibration_again None h = refl
calibration_again (Some c) h =
    λ i.
    Some
    (record { gain = double_again c.gain h.0 i; phase = double_again c.phase h.1 i; centre = double_again c.centre h.2 i })

pub config_again : (g : ConditioningConfig) → ConfigTyped g → config_in (config_words g) ≡ g
unfolding config_in config_words
config_again g t = λ i.
    record {
      impulse = mode_again g.impulse i;
      dc = mode_again g.dc i;
      iq = mode_again g.iq i;
      fs = double_again g.fs t.fs i;
      centre = double_again g.centre t.centre i;
      n = g.n;
      calibration = calibration_again g.calibration t.calibration i;
      spans = g.spans;
      repairs = g.repairs;
      edition = edition_again g.edition i;
    }
