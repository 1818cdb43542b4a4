-- `impulse_slice::note` meets its contract. Assumes nothing.
use mathlib.Core.Path.{◌≡◌, subst, ap, sym, ◌∙◌}
use mathlib.Core.Bool.{Bool, true, false}
use Prim.Native.Nat.{ℕ, ◌+◌, ◌≤◌, ◌^◌}
use native.Mathlib.Omega.{arith}
use Rattle.impulse_slice.specs.Noted.{Noted, noted_of, note_all, doubts, filled_events, Roomy, events_size}
use Rattle.impulse_slice.proofs.laws.NotesLaws.{note_append, roomy_up, roomy_all}
use Rattle.impulse_slice.proofs.note.Goals as goal

two_most : (j : ℕ) (doubt : Bool) → events_size (doubts j doubt) ≤ 2
two_most j true = omega arith
two_most j false = omega arith

doubted : (span_capacity repair_capacity : ℕ) (x y : Noted) (j : ℕ) (doubt : Bool) → y ≡ note_all span_capacity repair_capacity x (doubts j doubt)
    → Roomy span_capacity repair_capacity (2 ^ 60) x → Roomy span_capacity repair_capacity (2 ^ 61) y
doubted span_capacity repair_capacity x y j doubt e r =
    subst (λ (z : Noted). Roomy span_capacity repair_capacity (2 ^ 61) z) (sym e)
    (roomy_up span_capacity repair_capacity (2 ^ 60 + events_size (doubts j doubt)) (2 ^ 61) (note_all span_capacity repair_capacity x (doubts j doubt))
    (omega (arith, two_most j doubt)) (roomy_all span_capacity repair_capacity (2 ^ 60) x (doubts j doubt) r))

pub note_ended-requires : goal.note_ended-requires
note_ended-requires c =
    let a = c.args in
    let d = c.note_doubt in
    record {
      roomy =
          doubted a.span_capacity a.repair_capacity (noted_of a.notes.now a.spans.now a.repairs.now)
          (noted_of d.new.notes d.new.spans a.repairs.now) a.j
          a.doubt (d.ensures a.repair_capacity a.repairs.now) c.requires.roomy;
      ended_bound = c.requires.j_bound.1;
    }

pub returns : goal.returns
returns c =
    let a = c.args in
    let d = c.note_doubt in
    let e = c.note_ended in
    let x = noted_of a.notes.now a.spans.now a.repairs.now in
    e.ensures
    ∙ ap (λ (y : Noted). note_all a.span_capacity a.repair_capacity y (filled_events a.ended)) (d.ensures a.repair_capacity a.repairs.now)
    ∙ sym (note_append a.span_capacity a.repair_capacity x (doubts a.j a.doubt) (filled_events a.ended))
