-- A start by what its header says. Assumes nothing.
use Rattle.std.specs.Prelude.{◌≡◌, List, ℕ}
use Rattle.std.proofs.Math.Path.{ap}
use Rattle.chain_make.specs.Making.{fresh_state}
use Rattle.replay_format.specs.Header.{Said, header_said}
use Rattle.replay_start.specs.Starting.{made_by, start_said, config_by, start_state}

module _ (head : List ℕ) (said : Said) (e : said ≡ header_said head) where
  pub said_is : (spans repairs words : ℕ) → made_by said spans repairs words ≡ start_said head spans repairs words
  unfolding start_said
  said_is spans repairs words = ap (λ (s : Said). made_by s spans repairs words) e

  pub state_is : fresh_state (config_by said) ≡ start_state head
  unfolding start_state
  state_is = ap (λ (s : Said). fresh_state (config_by s)) e
