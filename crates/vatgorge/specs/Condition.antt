-- vg_condition: all that it leaves. Definitions only.
use Rattle.std.specs.Prelude.{List, [], ◌∷◌, ℕ, set}
use Rattle.rules.specs.Answers.{Said, accepted, nothing, refused, number_of}
use Rattle.chain.specs.Stages.{machine_of}
use Rattle.chain.specs.Calls.{Outcome, called}
use Rattle.chain_words.specs.States.{state_of}
use Rattle.vatgorge.specs.Codes.{words_after}

-- the call on the state that the words say
abbrev pub called_in : List ℕ → List ℕ → List ℕ → List ℕ → Outcome
called_in ws samples spans repairs = called (machine_of (state_of ws) spans repairs) samples

-- ---- the answer, and every lent word

pub record After : Type 0 where
  pub code : ℕ
  pub state : List ℕ
  pub samples : List ℕ
  pub spans : List ℕ
  pub repairs : List ℕ
  pub out : List ℕ

-- how many samples are ready goes to the first word, the place of one that is not usable to the second
abbrev pub out_after : List ℕ → Said ℕ → List ℕ
out_after out (accepted ready) = set out 0 ready
out_after out nothing = out
out_after out (refused []) = out
out_after out (refused (n ∷ [])) = out
out_after out (refused (n ∷ place ∷ r)) = set out 1 place

abbrev pub after : List ℕ → List ℕ → List ℕ → List ℕ → List ℕ → After
after ws samples spans repairs out =
    let o = called_in ws samples spans repairs in
    record {
      code = number_of o.said;
      state = words_after (number_of o.said) ws o.machine.state;
      samples = o.samples;
      spans = o.machine.spans;
      repairs = o.machine.repairs;
      out = out_after out o.said;
    }
