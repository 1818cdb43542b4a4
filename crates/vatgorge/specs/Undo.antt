-- vg_undo_repairs: all that it leaves. Definitions only.
use Rattle.std.specs.Prelude.{List, ℕ}
use Rattle.rules.specs.Answers.{number_of}
use Rattle.chain_undo.specs.Undoing.{undo_of}
use Rattle.chain_words.specs.States.{state_of}

pub record After : Type 0 where
  pub code : ℕ
  pub samples : List ℕ

abbrev pub after : List ℕ → List ℕ → List ℕ → ℕ → After
after ws repairs samples first = let o = undo_of (state_of ws) repairs samples first in record { code = number_of o.said; samples = o.samples }
