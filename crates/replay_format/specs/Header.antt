-- What a header says, in document 01's words and in the code's types. Definitions only.
use Rattle.std.specs.Prelude.{cond, List, ℕ, Result, Ok, Err, Option, Some, None}
use Rattle.rules.specs.Iq.{Calibrated, none, with}
use Rattle.rules.specs.Mode.{Mode, off, observe, apply}
use Rattle.rules.specs.Pauses.{Edition, first, second}
use Rattle.rules.specs.Chain.{Config}
use Rattle.rules.specs.Answers.{number_in}
use Rattle.refusal.specs.declared.Refusal.{Refusal}
use Rattle.refusal.specs.Words.{words_of}
use Rattle.stage_mode.specs.declared.StageMode.{StageMode}
use Rattle.stage_mode.specs.declared.StageMode.TheVariants as mode
use Rattle.impulse_pause.specs.declared.PauseEdition.{PauseEdition}
use Rattle.impulse_pause.specs.declared.PauseEdition.TheVariants as edition
use Rattle.iq.specs.declared.IqCalibration.{IqCalibration}
use Rattle.chain_config.specs.declared.ConditioningConfig.{ConditioningConfig}
use Rattle.chain_config.specs.Config.{config_of}
use Rattle.replay_format.specs.Format.{header_fits, config_in}

-- a number, or a configuration
pub data Said : Type 0 where
  refused : ℕ → Said
  config : Config → Said

abbrev pub said_header : Result ConditioningConfig Refusal → Said
said_header (Ok g) = config (config_of g)
said_header (Err e) = refused (number_in (words_of e))

-- the number of a refusal, and 0 where there is none
abbrev pub header_number : Said → ℕ
header_number (refused k) = k
header_number (config g) = 0

unfoldable pub header_said : List ℕ → Said
header_said bytes = cond (header_fits bytes) (config (config_in bytes)) (refused 14)

-- ---- a configuration in the code's types

abbrev pub mode_from : Mode → StageMode
mode_from off = mode.Off
mode_from observe = mode.Observe
mode_from apply = mode.Apply

abbrev pub edition_from : Edition → PauseEdition
edition_from first = edition.First
edition_from second = edition.Second

abbrev pub calibration_from : Calibrated → Option IqCalibration
calibration_from none = None
calibration_from (with c) = Some (record { gain = c.gain; phase = c.phase; centre = c.centre })

abbrev pub config_from : Config → ConditioningConfig
config_from c =
    record {
      impulse = mode_from c.impulse_mode;
      dc = mode_from c.dc_mode;
      iq = mode_from c.iq_mode;
      fs = c.fs;
      centre = c.centre;
      n = c.n;
      calibration = calibration_from c.calibration;
      spans = c.spans;
      repairs = c.repairs;
      edition = edition_from c.edition;
    }
