-- A recording's header and its start: the answer and every lent word. Definitions only.
use Rattle.std.specs.Prelude.{List, ℕ, length, Float}
use Rattle.chain_config.specs.declared.ConditioningConfig.{ConditioningConfig}
use Rattle.chain_make.specs.Making as making
use Rattle.replay_format.specs.Header.{Said, refused, config, config_from}
use Rattle.replay_start.specs.Starting.{start_said, start_state}
use Rattle.vatgorge.specs.Config.{config_in, config_words}
use Rattle.vatgorge.specs.Make.{After, after_said}

-- ---- vg_header

-- the configuration's words are written, and a refusal leaves every word
abbrev pub header_words : List ℕ → Said → List ℕ
header_words ws (refused k) = ws
header_words ws (config g) = config_words (config_from g)

-- the configuration that those words say
abbrev pub header_config : List ℕ → Said → ConditioningConfig
header_config ws (refused k) = config_in ws
header_config ws (config g) = config_from g

-- ---- vg_start

-- what a start says of these stores
abbrev pub start_of : List ℕ → List ℕ → List ℕ → List Float → making.Said
start_of head spans repairs monitor = start_said head (length spans) (length repairs) (length monitor)

abbrev pub after : List ℕ → List ℕ → List ℕ → List ℕ → List Float → After
after head ws spans repairs monitor = after_said (start_of head spans repairs monitor) (start_state head) ws spans repairs monitor
