-- The machine's answers as the code's structs, and the code's structs as the rules' events. Definitions only.
use Rattle.std.specs.Prelude.{Bool, cond, List, [], ◌∷◌, ◌++◌, ℕ, ◌-◌, get_or, take, Option, Some, None}
use Rattle.rules.specs.Impulse.{Event, uncertain, kept, mended}
use Rattle.impulse.specs.declared.ImpulseSuppressor.{ImpulseSuppressor}
use Rattle.stage_log.specs.declared.Repair.{Repair}
use Rattle.impulse.specs.declared.Ended.{Ended}
use Rattle.impulse.specs.declared.Ended.TheVariants.{Going, Kept, Mended}
use Rattle.impulse.specs.declared.Judged.{Judged}
use Rattle.impulse.specs.declared.Pushed.{Pushed}
use Rattle.impulse.specs.Machine.{Ending, going, kept_run, mended_run, Judgement, Outcome}

-- ---- the code's structs

-- 'four originals .. (unused ones 0)'
unfoldable pub repair_of : ℕ → ℕ → List ℕ → Repair
repair_of a n os = record { start = a; len = n; first = get_or os 0 0; second = get_or os 1 0; third = get_or os 2 0; fourth = get_or os 3 0 }

abbrev pub ended_of : Ending → Ended
ended_of going = Going
ended_of (kept_run a n long) = Kept a n long
ended_of (mended_run a n os) = Mended (repair_of a n os)

abbrev pub judged_of : Judgement → Judged
judged_of d = record { uncertain = d.uncertain; ended = ended_of d.ended }

-- the suppressor after it
abbrev pub judged_by : ImpulseSuppressor → Judgement → ImpulseSuppressor
judged_by m d = record { gate = d.gate; window = m.window; sorted = m.sorted; pending = d.pending }

abbrev pub pushed_of : Outcome → Pushed
pushed_of o = record { answer = o.answer; uncertain = o.uncertain; ended = ended_of o.ended }

-- ---- events

abbrev pub originals_of : Repair → List ℕ
originals_of r = take r.len (r.first ∷ r.second ∷ r.third ∷ r.fourth ∷ [])

abbrev pub ended_events : Ended → List Event
ended_events Going = []
ended_events (Kept a n long) = kept a n long ∷ []
ended_events (Mended r) = mended r.start r.len (originals_of r) ∷ []

abbrev pub ending_events : Ending → List Event
ending_events going = []
ending_events (kept_run a n long) = kept a n long ∷ []
ending_events (mended_run a n os) = mended a n os ∷ []

-- sample j was judged
abbrev pub told : ℕ → Bool → List Event → List Event
told j doubt ended = cond doubt (uncertain j ∷ []) [] ++ ended

-- what the push of sample n tells, with a window of so many on each side
abbrev pub pushed_events : ℕ → ℕ → Pushed → List Event
pushed_events half n p = told (n - half) p.uncertain (ended_events p.ended)

-- what a push hands on
abbrev pub given : Option ℕ → List ℕ
given None = []
given (Some x) = x ∷ []
