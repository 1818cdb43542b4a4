-- A recording's start: what its header makes of the state and of every lent word, and what is answered. Definitions only.
use Rattle.std.specs.Prelude.{None, List, ℕ}
use Rattle.rules.specs.Constants.{zero_f}
use Rattle.impulse_pause.specs.declared.PauseEdition.TheVariants as edition
use Rattle.stage_mode.specs.declared.StageMode.TheVariants as mode
use Rattle.chain_config.specs.declared.ConditioningConfig.{ConditioningConfig}
use Rattle.chain_state.specs.declared.InputConditioner.{InputConditioner}
use Rattle.chain_make.specs.Making as making
use Rattle.chain_make.specs.Making.{fresh_state, making_said}
use Rattle.replay_format.specs.Header.{Said, refused, config, header_said, config_from}

-- what the header refuses, or what making says of its configuration, with the lengths of the span store, the repair store and the monitor's words
abbrev pub made_by : Said → ℕ → ℕ → ℕ → making.Said
made_by (refused k) spans repairs words = making.refused k
made_by (config g) spans repairs words = making_said g spans repairs words

unfoldable pub start_said : List ℕ → ℕ → ℕ → ℕ → making.Said
start_said head spans repairs words = made_by (header_said head) spans repairs words

-- no stage runs
abbrev pub idle : ConditioningConfig
idle =
    record {
      impulse = mode.Off;
      dc = mode.Off;
      iq = mode.Off;
      fs = zero_f;
      centre = zero_f;
      n = 0;
      calibration = None;
      spans = 0;
      repairs = 0;
      edition = edition.First;
    }

-- the header's configuration; beside 14 the idle one
abbrev pub config_by : Said → ConditioningConfig
config_by (refused k) = idle
config_by (config g) = config_from g

-- and its fresh state
unfoldable pub start_state : List ℕ → InputConditioner
start_state head = fresh_state (config_by (header_said head))
