-- What an accepted call leaves in its slice: the released samples from its first place on, and behind them what stood there. Assumes nothing.
use Rattle.std.specs.Prelude.{◌≡◌, refl, List, ℕ, length, take, drop}
use Rattle.std.proofs.Common.{take_at, drop_at}
use Rattle.rules.specs.Answers.{accepted}
use Rattle.chain.specs.Stages.{new_part, Machine, hands_on}
use Rattle.chain.specs.Calls.{taken}

module _ (m : Machine) (samples : List ℕ) where
  abbrev released : List ℕ
  released = hands_on m.state (new_part m.state samples)

  -- 'Ready is how many samples a call releases, from its first place on'
  pub ready_many : (taken m samples).said ≡ accepted (length released)
  ready_many = refl

  pub in_front : take (length released) (taken m samples).samples ≡ released
  in_front = take_at released _ (length released) refl

  -- 'Places from ready on stay as they were.'
  pub behind_ready : drop (length released) (taken m samples).samples ≡ drop (length released) samples
  behind_ready = drop_at released _ (length released) refl
