-- A chain made: the answer and every lent word. Definitions only.
use Rattle.std.specs.Prelude.{List, ℕ, length, Float}
use Rattle.rules.specs.Constants.{zero_f}
use Rattle.chain_config.specs.declared.ConditioningConfig.{ConditioningConfig}
use Rattle.chain_config.specs.Config.{config_of}
use Rattle.chain_state.specs.declared.InputConditioner.{InputConditioner}
use Rattle.chain_make.specs.Making as making
use Rattle.chain_make.specs.Making.{fresh_state, making_said, made_words}
use Rattle.vatgorge.specs.Codes.{nothing_code, words_after}
use Rattle.vatgorge.specs.Config.{config_in}

pub record After : Type 0 where
  pub code : ℕ
  pub state : List ℕ
  pub spans : List ℕ
  pub repairs : List ℕ
  pub monitor : List Float

abbrev pub code_of : making.Said → ℕ
code_of making.nothing = nothing_code
code_of (making.refused k) = k
code_of making.made = 0

-- by what is said: where a chain is made, its state's words, and every word of the stores 0
abbrev pub after_said : making.Said → InputConditioner → List ℕ → List ℕ → List ℕ → List Float → After
after_said said state ws spans repairs monitor =
    record {
      code = code_of said;
      state = words_after (code_of said) ws state;
      spans = made_words 0 said spans;
      repairs = made_words 0 said repairs;
      monitor = made_words zero_f said monitor;
    }

-- what making says of these stores
abbrev pub said_of : ConditioningConfig → List ℕ → List ℕ → List Float → making.Said
said_of g spans repairs monitor = making_said (config_of g) (length spans) (length repairs) (length monitor)

-- vg_make
abbrev pub after : List ℕ → List ℕ → List ℕ → List ℕ → List Float → After
after config ws spans repairs monitor =
    after_said (said_of (config_in config) spans repairs monitor) (fresh_state (config_in config)) ws spans repairs monitor
