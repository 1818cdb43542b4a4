-- Repair undo: what it declines, and what it makes of a slice. Definitions only.
use Rattle.std.specs.Prelude.{Bool, true, not, cond, ◌&&◌, List, [], ◌∷◌, ℕ, ◌*◌, ltb, leb, eqb, length, take, drop}
use Rattle.rules.specs.Impulse.{longest_run}
use Rattle.rules.specs.Constants.{total_limit}
use Rattle.rules.specs.Lists.{at}
use Rattle.rules.specs.Log.{repair_width}
use Rattle.rules.specs.Undo.{held_records, undone_all}
use Rattle.rules.specs.Answers.{Said, accepted, refused}
use Rattle.rules.specs.Refusals.{Cause, first_of, bad_length}
use Rattle.stage_log.specs.View.{ring_in}
use Rattle.chain_state.specs.declared.InputConditioner.{InputConditioner}
use Rattle.chain_state.specs.Causes.{bad_state}

-- ---- the held records

-- the record whose words begin at this place of a store
abbrev pub record_in : List ℕ → ℕ → List ℕ
record_in ws place = take repair_width (drop place ws)

-- not: 'in repair undo a held record's length not 1..4 or start > 2^48'
unfoldable pub record_fits : List ℕ → Bool
record_fits e = ltb 0 (at e 1) && leb (at e 1) longest_run && leb (at e 0) total_limit

unfoldable pub records_fit : List (List ℕ) → Bool
records_fit [] = true
records_fit (e ∷ es) = record_fits e && records_fit es

-- those that a state holds, with its lent store
abbrev pub records_of : InputConditioner → List ℕ → List (List ℕ)
records_of c repairs = held_records c.settings.repairs (ring_in c.notes.repairs repairs)

-- ---- what is declined: '5, 4', 5's rule on lent words straight after

-- number 5, of the lent words
abbrev pub bad_records : InputConditioner → List ℕ → Cause
bad_records c repairs = record { holds = not (records_fit (records_of c repairs)); number = 5 }

unfoldable pub undo_refusal : InputConditioner → List ℕ → ℕ
undo_refusal c repairs = first_of (bad_state c ∷ bad_length (repair_width * c.settings.repairs) (length repairs) ∷ bad_records c repairs ∷ [])

-- ---- the operation

-- the answer, and the slice
pub record Outcome : Type 0 where
  pub said : Said (Unit {0})
  pub samples : List ℕ

-- 'Logged originals return to their places, oldest first; those outside the slice are skipped': the slice begins with sample `first`
unfoldable pub undo_of : InputConditioner → List ℕ → List ℕ → ℕ → Outcome
undo_of c repairs samples first =
    let n = undo_refusal c repairs in
    cond (eqb n 0)
    (record { said = accepted tt; samples = undone_all first (records_of c repairs) samples })
    (record { said = refused (n ∷ []); samples = samples })
