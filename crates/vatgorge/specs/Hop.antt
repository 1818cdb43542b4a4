-- vg_hop: all that it leaves. Definitions only.
use Rattle.std.specs.Prelude.{List, [], ◌∷◌, ℕ, set, Float}
use Rattle.std.specs.Float.{binary64}
use Rattle.std.specs.Float.Ieee.{to_bits}
use Rattle.rules.specs.Monitor.{Report, Answer, no_report, report}
use Rattle.rules.specs.Answers.{Said, accepted, nothing, refused, number_in}
use Rattle.chain_hop.specs.Hops.{Hopped, hop_of, hop_told}
use Rattle.chain_words.specs.Words.{flag_word}
use Rattle.chain_words.specs.States.{state_of}
use Rattle.vatgorge.specs.Codes.{nothing_code, words_after, put_from}

-- the hop on the state that the words say
abbrev pub hopped_in : List ℕ → List ℕ → ℕ → List ℕ → List Float → Hopped
hopped_in ws channels start spans monitor = hop_of (state_of ws) channels start spans monitor

-- how it is answered
abbrev pub told_in : List ℕ → List ℕ → ℕ → List ℕ → List Float → Said Answer
told_in ws channels start spans monitor = hop_told (state_of ws) channels start spans monitor

-- ---- the answer, and every lent word

pub record After : Type 0 where
  pub code : ℕ
  pub state : List ℕ
  pub spans : List ℕ
  pub monitor : List Float
  pub out : List ℕ

abbrev pub code_of : Said Answer → ℕ
code_of (accepted a) = 0
code_of nothing = nothing_code
code_of (refused r) = number_in r

abbrev pub report_words : Report → List ℕ
report_words r =
    1
    ∷ r.start
    ∷ r.end
    ∷ flag_word r.suspected
    ∷ to_bits binary64 r.coherence
    ∷ to_bits binary64 r.floor
    ∷ to_bits binary64 r.strongest
    ∷ to_bits binary64 r.mirror
    ∷ []

-- whether there is a report goes to the first word, and the report behind it; the place of a channel that is not within the limit goes to the last
abbrev pub out_after : List ℕ → Said Answer → List ℕ
out_after out (accepted no_report) = set out 0 0
out_after out (accepted (report r)) = put_from 0 (report_words r) out
out_after out nothing = out
out_after out (refused []) = out
out_after out (refused (n ∷ [])) = out
out_after out (refused (n ∷ place ∷ r)) = set out 8 place

abbrev pub after : List ℕ → List ℕ → ℕ → List ℕ → List Float → List ℕ → After
after ws channels start spans monitor out =
    let h = hopped_in ws channels start spans monitor in
    let told = told_in ws channels start spans monitor in
    record {
      code = code_of told;
      state = words_after (code_of told) ws h.state;
      spans = h.spans;
      monitor = h.words;
      out = out_after out told;
    }
