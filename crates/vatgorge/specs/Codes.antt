-- What every C function has in common: the answer 'nothing', what becomes of the state's words, and values in words lent for them. Definitions only.
use Rattle.std.specs.Prelude.{cond, List, [], ◌∷◌, ℕ, suc, eqb, set}
use Rattle.chain_state.specs.declared.InputConditioner.{InputConditioner}
use Rattle.chain_words.specs.Words.{words_of}
use Rattle.chain_words.specs.States.{state_of}

-- 'nothing'. Other answers are 0, accepted, and the documents' numbers
abbrev pub nothing_code : ℕ
nothing_code = 100

-- an accepted operation writes the state, and any other leaves every word
abbrev pub words_after : ℕ → List ℕ → InputConditioner → List ℕ
words_after code ws s = cond (eqb code 0) (words_of s) ws

-- the state that those words say
abbrev pub state_after : ℕ → List ℕ → InputConditioner → InputConditioner
state_after code ws s = cond (eqb code 0) s (state_of ws)

-- values in the words from place k on; the others stay
abbrev pub put_from : ℕ → List ℕ → List ℕ → List ℕ
put_from k [] out = out
put_from k (v ∷ vs) out = put_from (suc k) vs (set out k v)
