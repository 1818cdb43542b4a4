-- A machine that takes one input after the other and emits a list at each; and the stage as one. Definitions only.
use Rattle.std.specs.Prelude.{List, [], ◌∷◌, ◌++◌, ℕ, ◌-◌}
use Rattle.rules.specs.Impulse.{Setting, Event}
use Rattle.impulse.specs.declared.ImpulseSuppressor.{ImpulseSuppressor}
use Rattle.impulse.specs.Machine.{Outcome, push}
use Rattle.impulse.specs.View.{ending_events, told, given}

-- the state after the inputs
abbrev pub after : {S X : Type 0} → (S → X → S) → S → List X → S
after step s [] = s
after step s (x ∷ xs) = after step (step s x) xs

-- what was emitted on the way, joined
abbrev pub outs : {S X Y : Type 0} → (S → X → S) → (S → X → List Y) → S → List X → List Y
outs step emit s [] = []
outs step emit s (x ∷ xs) = emit s x ++ outs step emit (step s x) xs

-- ---- the stage: its step, what it hands on, and what happens

abbrev pub step : Setting → ImpulseSuppressor → ℕ → ImpulseSuppressor
step s m x = (push s m x).state

abbrev pub emit : Setting → ImpulseSuppressor → ℕ → List ℕ
emit s m x = given (push s m x).answer

-- sample n was pushed
abbrev pub news_of : Setting → ℕ → Outcome → List Event
news_of s n o = told (n - s.half) o.uncertain (ending_events o.ended)

abbrev pub news : Setting → ImpulseSuppressor → ℕ → List Event
news s m x = news_of s m.gate.received (push s m x)
