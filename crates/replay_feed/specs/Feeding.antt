-- A block of a recording: what it answers, and what it makes of the state and of every lent word. Definitions only.
use Rattle.std.specs.Prelude.{cond, Result, Ok, Err, List, ◌++◌, ℕ, ◌+◌, ◌-◌, ◌*◌, ◌/◌, min, eqb, length, take, drop}
use Rattle.rules.specs.Answers.{Said, number_of}
use Rattle.refusal.specs.declared.Refusal.{Refusal}
use Rattle.rules.specs.Guard.{guarded, unusable}
use Rattle.chain_state.specs.declared.InputConditioner.{InputConditioner}
use Rattle.chain.specs.Stages.{Machine}
use Rattle.chain.specs.Calls.{Outcome, called}
use Rattle.replay_format.specs.Format.{sample_size, words_in}
use Rattle.replay_feed.specs.declared.Fed.{Fed}

-- the held places in a store of samples
abbrev pub held_in : InputConditioner → List ℕ → ℕ
held_in c samples = min c.counts.held (length samples)

-- as many samples as the block has, and as the store has room for behind the held places
abbrev pub new_many : InputConditioner → List ℕ → List ℕ → ℕ
new_many c bytes samples = min (length bytes / sample_size) (length samples - held_in c samples)

-- the new words, as they are read
unfoldable pub new_words : InputConditioner → List ℕ → List ℕ → List ℕ
new_words c bytes samples = take (new_many c bytes samples) (words_in bytes)

-- 'It guards first': the slice of the call
unfoldable pub slice : InputConditioner → List ℕ → List ℕ → List ℕ
slice c bytes samples = take (held_in c samples) samples ++ guarded (new_words c bytes samples)

-- what lies behind the slice
unfoldable pub behind : InputConditioner → List ℕ → List ℕ → List ℕ
behind c bytes samples = drop (held_in c samples + new_many c bytes samples) samples

-- ---- a block

-- the answer, the chain, the store of samples, how many samples were replaced by 0, and how many bytes were taken
pub record BlockOutcome : Type 0 where
  pub said : Said ℕ
  pub machine : Machine
  pub samples : List ℕ
  pub replaced : ℕ
  pub taken : ℕ

-- by the outcome of its call
abbrev pub taken_block : Machine → List ℕ → List ℕ → Outcome → BlockOutcome
taken_block m bytes samples o =
    record {
      said = o.said;
      machine = o.machine;
      samples = o.samples ++ behind m.state bytes samples;
      replaced = unusable (new_words m.state bytes samples);
      taken = sample_size * new_many m.state bytes samples;
    }

-- one that is refused leaves all
abbrev pub refused_block : Machine → List ℕ → Said ℕ → BlockOutcome
refused_block m samples s = record { said = s; machine = m; samples = samples; replaced = 0; taken = 0 }

unfoldable pub fed : Machine → List ℕ → List ℕ → BlockOutcome
fed m bytes samples =
    let o = called m (slice m.state bytes samples) in
    cond (eqb (number_of o.said) 0) (taken_block m bytes samples o) (refused_block m samples o.said)

-- ---- of an answer

-- how many samples were replaced, and how many bytes were taken: none where the block is refused
abbrev pub replaced_in : Result Fed Refusal → ℕ
replaced_in (Ok f) = f.replaced
replaced_in (Err e) = 0

abbrev pub taken_in : Result Fed Refusal → ℕ
taken_in (Ok f) = f.taken
taken_in (Err e) = 0
