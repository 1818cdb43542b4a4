-- `impulse_slice::note_doubt` meets its contract. Assumes nothing.
use native.Mathlib.Omega.{arith}
use lib.Dec.{lit<}
use Rattle.rules.specs.Log.{span_of}
use Rattle.stage_log.proofs.laws.CheckLaws.{bounded_fits}
use Rattle.impulse_slice.specs.Noted.{note_all}
use Rattle.impulse_slice.proofs.Notings.{doubt_noted}
use Rattle.impulse_slice.proofs.note_doubt.Goals as goal

pub returns-then-not-doubt : goal.returns-then-not-doubt
unfolding note_all
returns-then-not-doubt c repair_capacity rs = simp c.if-not-doubt.true

pub mark-requires : goal.mark-requires
mark-requires c =
    let a = c.args in
    bounded_fits _ _ _ _ (span_of a.j 1) c.requires.bounded (lit< tt) (omega arith) (omega (arith, c.requires.j_bound))

pub returns : goal.returns
returns c repair_capacity rs =
    let a = c.args in
    simp c.if-not-doubt.false
    (doubt_noted a.span_capacity repair_capacity a.notes.now c.mark.new.self a.spans.now c.mark.new.spans rs a.j
    c.mark.ensures)
