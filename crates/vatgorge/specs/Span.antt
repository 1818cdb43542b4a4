-- vg_span: the ring that its arguments say, and all that it leaves. Definitions only.
use Rattle.std.specs.Prelude.{cond, List, [], ◌∷◌, ℕ, eqb}
use Rattle.rules.specs.Log.{ring_number}
use Rattle.stage_log.specs.declared.Stage.{Stage}
use Rattle.stage_log.specs.declared.Stage.TheVariants.{Impulse, Dc, Iq}
use Rattle.stage_log.specs.declared.Mark.{Mark}
use Rattle.stage_log.specs.declared.Mark.TheVariants.{Repaired, Flagged, Corrected, Uncertain}
use Rattle.stage_log.specs.View.{stage_of, mark_of}
use Rattle.chain_log.specs.Reading.{Found, no_span, found, span_read}
use Rattle.chain_words.specs.States.{state_of}
use Rattle.vatgorge.specs.Codes.{nothing_code, put_from}

-- ---- the arguments

-- 2 and above is IQ
abbrev pub stage_at : ℕ → Stage
stage_at w = cond (eqb w 0) Impulse (cond (eqb w 1) Dc Iq)

-- 3 and above is uncertain
abbrev pub mark_at : ℕ → Mark
mark_at w = cond (eqb w 0) Repaired (cond (eqb w 1) Flagged (cond (eqb w 2) Corrected Uncertain))

-- span number i of that ring, in the state that the words say
abbrev pub read_in : List ℕ → List ℕ → ℕ → ℕ → ℕ → Found
read_in ws spans stage mark i = span_read (state_of ws) spans (ring_number (stage_of (stage_at stage)) (mark_of (mark_at mark))) i

-- ---- the answer, and every lent word

pub record After : Type 0 where
  pub code : ℕ
  pub out : List ℕ

-- 'nothing' where there is no such span, and all words stay
abbrev pub after_found : List ℕ → Found → After
after_found out no_span = record { code = nothing_code; out = out }
after_found out (found s) = record { code = 0; out = put_from 0 (s.start ∷ s.len ∷ []) out }

abbrev pub after : List ℕ → List ℕ → ℕ → ℕ → ℕ → List ℕ → After
after ws spans stage mark i out = after_found out (read_in ws spans stage mark i)
