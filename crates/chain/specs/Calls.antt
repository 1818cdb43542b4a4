-- A call: what it declines, and what it makes of the state, the samples and the stores. Definitions only.
use Rattle.std.specs.Prelude.{cond, List, [], ◌∷◌, ◌++◌, ℕ, zero, suc, ◌-◌, ◌*◌, eqb, length, drop}
use Rattle.rules.specs.Answers.{Said, accepted, refused}
use Rattle.rules.specs.Refusals.{Cause, first_of, bad_length, short_slice, too_many, unusable_at, any_unusable}
use Rattle.rules.specs.Log.{repair_width, store_width}
use Rattle.amplitude_limit.specs.Limit.{returned}
use Rattle.chain_state.specs.declared.InputConditioner.{InputConditioner}
use Rattle.chain_state.specs.Causes.{bad_state, bad_spans}
use Rattle.chain.specs.Stages.{new_part, Machine, hands_on, process}

-- ---- what a call declines: '5, 4', 5's rule on lent words straight after, '6, 8, 7'

-- what is told before a sample is read: of the state, the length of the slice, and the stores
abbrev pub unread_causes : InputConditioner → ℕ → List ℕ → List ℕ → List Cause
unread_causes c len spans repairs =
    bad_state c
    ∷ bad_length (repair_width * c.settings.repairs) (length repairs)
    ∷ bad_length (store_width * c.settings.spans) (length spans)
    ∷ bad_spans c spans
    ∷ short_slice c.counts.held len
    ∷ too_many c.counts.seen (len - c.counts.held)
    ∷ []

unfoldable pub unread_refusal : InputConditioner → ℕ → List ℕ → List ℕ → ℕ
unread_refusal c len spans repairs = first_of (unread_causes c len spans repairs)

-- 7 is told last
unfoldable pub call_refusal : InputConditioner → List ℕ → List ℕ → List ℕ → ℕ
call_refusal c samples spans repairs =
    first_of (unread_causes c (length samples) spans repairs ++ (any_unusable c.counts.held (new_part c samples) ∷ []))

-- ---- a call

-- what is told before a sample is read: a refusal, or that none is ready
abbrev pub told_unread : ℕ → Said ℕ
told_unread zero = accepted 0
told_unread (suc k) = refused (suc k ∷ [])

-- what is told of the new samples, the first of which stands at place held: a refusal, or that none is ready
abbrev pub told_read : ℕ → List ℕ → Said ℕ
told_read held xs = cond (any_unusable held xs).holds (refused (7 ∷ unusable_at held xs ∷ [])) (accepted 0)

-- the answer, with how many samples are ready, the chain, and the slice
pub record Outcome : Type 0 where
  pub said : Said ℕ
  pub machine : Machine
  pub samples : List ℕ

-- 'Places from ready on stay as they were.'
abbrev pub taken : Machine → List ℕ → Outcome
taken m samples =
    let ys = hands_on m.state (new_part m.state samples) in
    record { said = accepted (length ys); machine = process m (new_part m.state samples); samples = ys ++ drop (length ys) samples }

abbrev pub declined : Machine → List ℕ → List ℕ → Outcome
declined m samples r = record { said = refused r; machine = m; samples = samples }

unfoldable pub called : Machine → List ℕ → Outcome
called m samples =
    let n = call_refusal m.state samples m.spans m.repairs in
    cond (eqb n 0) (taken m samples) (declined m samples (returned n (unusable_at m.state.counts.held (new_part m.state samples))))
