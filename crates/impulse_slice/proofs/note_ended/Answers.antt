-- `impulse_slice::note_ended` meets its contract. Assumes nothing.
use mathlib.Core.Path.{subst, ap, sym, ◌∙◌}
use Prim.Native.Nat.{◌≤◌, ◌^◌}
use Rattle.impulse.specs.declared.Ended.{Ended}
use Rattle.impulse_slice.specs.Noted.{noted_of, note_all, filled_events, ended_end}
use Rattle.impulse_slice.proofs.note_ended.Goals as goal

pub note_kept-requires : goal.note_kept-requires
note_kept-requires c =
    let e = c.in-Kept.is in
    record {
      bounded = c.requires.roomy.spans;
      longruns_bound = (c.requires.roomy.longruns, subst (λ (x : Ended). ended_end x ≤ 2 ^ 60) e c.requires.ended_bound);
    }

pub note_mended-requires : goal.note_mended-requires
note_mended-requires c =
    let e = c.in-Mended.is in
    record {
      roomy = c.requires.roomy;
      len_bound = subst (λ (x : Ended). ended_end x ≤ 2 ^ 60) e c.requires.ended_bound;
    }

pub returns-in-Going : goal.returns-in-Going
unfolding note_all
returns-in-Going c = simp c.in-Going.is

pub returns-in-Kept : goal.returns-in-Kept
returns-in-Kept c =
    let a = c.args in
    let e = c.in-Kept.is in
    c.note_kept.ensures a.repair_capacity a.repairs.now
    ∙ ap (λ (x : Ended). note_all a.span_capacity a.repair_capacity (noted_of a.notes.now a.spans.now a.repairs.now) (filled_events x)) (sym e)

pub returns-in-Mended : goal.returns-in-Mended
returns-in-Mended c =
    let a = c.args in
    let e = c.in-Mended.is in
    c.note_mended.ensures
    ∙ ap (λ (x : Ended). note_all a.span_capacity a.repair_capacity (noted_of a.notes.now a.spans.now a.repairs.now) (filled_events x)) (sym e)
