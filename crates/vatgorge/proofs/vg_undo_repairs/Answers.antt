-- `vatgorge::vg_undo_repairs`: repair undo on the state that the words say. Assumes nothing.
use mathlib.Core.Path.{◌≡◌, refl, ap, ◌∙◌}
use Rattle.std.proofs.Common.{Result, Ok, Err}
use Rattle.chain_undo.specs.Undoing.{Outcome, undo_of}
use Rattle.chain_state.specs.declared.InputConditioner.{InputConditioner}
use Rattle.rules.specs.Answers.{accepted, number_of}
use Rattle.refusal.specs.declared.Refusal.{Refusal}
use Rattle.refusal.specs.Words as words
use Rattle.refusal.specs.Words.{said_by}
use Rattle.vatgorge.proofs.vg_undo_repairs.Goals as goal

-- the number, by what is said
number_said : (r : Result (Unit {0}) Refusal) → words.number_of r ≡ number_of (said_by accepted r)
number_said (Ok v) = refl
number_said (Err e) = refl

pub returns : goal.returns
returns c =
    let a = c.args in
    let read = c.read_state-state.ensures in
    let o = c.revert_repairs.ensures in
    let run : InputConditioner → Outcome = λ s. undo_of s a.repairs.now a.samples.now a.first in
    let code = c.number.ensures ∙ number_said c.revert_repairs.result ∙ ap number_of (o.answer ∙ ap (λ (s : InputConditioner). (run s).said) read) in
    let samples = o.written ∙ ap (λ (s : InputConditioner). (run s).samples) read in
    λ i. record { code = code i; samples = samples i }
