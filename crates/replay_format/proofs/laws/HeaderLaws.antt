-- A header's bytes by the answers of their tests; a configuration stands in the code's types as in the rules'. Assumes nothing.
use Rattle.std.specs.Prelude.{◌≡◌, refl, Option, Some, None, Bool, ◌&&◌, List, ℕ, zero, suc, leb, length}
use Rattle.std.proofs.Math.Path.{ap}
use Rattle.std.proofs.Math.Bool.{cond}
use Rattle.rules.specs.Iq as rules
use Rattle.rules.specs.Iq.{with}
use Rattle.stage_mode.specs.declared.StageMode.{StageMode}
use Rattle.stage_mode.specs.declared.StageMode.TheVariants as mode
use Rattle.impulse_pause.specs.declared.PauseEdition.{PauseEdition}
use Rattle.impulse_pause.specs.declared.PauseEdition.TheVariants as edition
use Rattle.impulse_pause.specs.View.{edition_of}
use Rattle.iq.specs.declared.IqCalibration.{IqCalibration}
use Rattle.iq.specs.View.{calibrated_of}
use Rattle.stage_mode.specs.View.{mode_of}
use Rattle.chain_config.specs.declared.ConditioningConfig.{ConditioningConfig}
use Rattle.chain_config.specs.Config.{config_of}
use Rattle.replay_format.specs.Format.{header_size, mark_fits, version_in, version_fits, modes_fit, header_fits, calibration_by, config_in}
use Rattle.replay_format.specs.Header.{refused, config, header_said, mode_from, edition_from, calibration_from, config_from}

-- ---- a byte

pub present : (b : ℕ) (c : rules.Calibration) → (b ≡ 0 → ⊥) → with c ≡ calibration_by b c
present zero c h = absurd (h refl)
present (suc b) c h = refl

-- ---- a header

module _ (bytes : List ℕ) where
  -- by whether the header fits
  pub said_where : (fits : Bool) → header_fits bytes ≡ fits → header_said bytes ≡ cond fits (config (config_in bytes)) (refused 14)
  unfolding header_said
  said_where fits e = ap (λ (t : Bool). cond t (config (config_in bytes)) (refused 14)) e

  -- by the answers of the tests
  pub said_by : (size mark version modes : Bool)
      → leb header_size (length bytes) ≡ size
      → mark_fits bytes ≡ mark
      → version_fits (version_in bytes) ≡ version
      → modes_fit bytes ≡ modes
      → header_said bytes ≡ cond (size && mark && version && modes) (config (config_in bytes)) (refused 14)
  said_by size mark version modes e f v g = said_where (size && mark && version && modes) (λ i. e i && f i && v i && g i)

-- ---- a configuration

mode_again : (m : StageMode) → mode_from (mode_of m) ≡ m
mode_again mode.Off = refl
mode_again mode.Observe = refl
mode_again mode.Apply = refl

edition_again : (e : PauseEdition) → edition_from (edition_of e) ≡ e
edition_again edition.First = refl
edition_again edition.Second = refl

calibration_again : (c : Option IqCalibration) → calibration_from (calibrated_of c) ≡ c
calibration_again None = refl
calibration_again (Some c) = refl

pub config_again : (g : ConditioningConfig) → config_from (config_of g) ≡ g
config_again g =
    rw (mode_again g.impulse, mode_again g.dc, mode_again g.iq, edition_again g.edition, calibration_again g.calibration)
