-- A configuration in the rules' words, and what making declines. Definitions only.
use Rattle.std.specs.Prelude.{Bool, not, ◌&&◌, [], ◌∷◌, ℕ, Float}
use Rattle.rules.specs.Mode.{Mode, off, observe, apply, runs}
use Rattle.rules.specs.Chain.{Config}
use Rattle.rules.specs.Refusals.{first_of, bad_rate, bad_size, bad_capacity, making_refusal}
use Rattle.iq.specs.View.{calibrated_of}
use Rattle.stage_mode.specs.View.{mode_of}
use Rattle.impulse_pause.specs.View.{edition_of}
use Rattle.chain_config.specs.declared.ConditioningConfig.{ConditioningConfig}

abbrev pub config_of : ConditioningConfig → Config
config_of c =
    record {
      impulse_mode = mode_of c.impulse;
      dc_mode = mode_of c.dc;
      iq_mode = mode_of c.iq;
      fs = c.fs;
      centre = c.centre;
      n = c.n;
      calibration = calibrated_of c.calibration;
      spans = c.spans;
      repairs = c.repairs;
      edition = edition_of c.edition;
    }

-- 'all off'
abbrev pub all_off : Config → Bool
all_off c = not (runs c.impulse_mode) && not (runs c.dc_mode) && not (runs c.iq_mode)

-- a stage that is off observes, another stays
abbrev pub forced : Mode → Mode
forced off = observe
forced observe = observe
forced apply = apply

abbrev pub with_modes : Config → Mode → Mode → Config
with_modes c impulse dc =
    record {
      impulse_mode = impulse;
      dc_mode = dc;
      iq_mode = c.iq_mode;
      fs = c.fs;
      centre = c.centre;
      n = c.n;
      calibration = c.calibration;
      spans = c.spans;
      repairs = c.repairs;
      edition = c.edition;
    }

-- the impulse and DC stages forced, all else as it was
abbrev pub observed : Config → Config
observed c = with_modes c (forced c.impulse_mode) (forced c.dc_mode)

-- 'a setting that making refuses'
unfoldable pub setting_refusal : Float → ℕ → ℕ → ℕ → ℕ
setting_refusal fs n spans repairs = first_of (bad_rate fs ∷ bad_size n ∷ bad_capacity spans repairs ∷ [])

-- making: '1, 2, 3, 4', by the lengths of the span store, the repair store and the monitor's words
abbrev pub refusal : Config → ℕ → ℕ → ℕ → ℕ
refusal c spans repairs words = making_refusal c.fs c.n c.spans c.repairs spans repairs words
