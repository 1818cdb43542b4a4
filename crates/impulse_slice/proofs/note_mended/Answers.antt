-- `impulse_slice::note_mended` meets its contract. Assumes nothing.
use native.Mathlib.Omega.{arith}
use lib.Dec.{lit<}
use Rattle.rules.specs.Log.{span_of}
use Rattle.stage_log.proofs.laws.CheckLaws.{bounded_fits}
use Rattle.impulse_slice.proofs.Notings.{mended_noted}
use Rattle.impulse_slice.proofs.note_mended.Goals as goal

pub mark-requires : goal.mark-requires
mark-requires c =
    let a = c.args in
    bounded_fits _ _ _ _ (span_of a.r.start a.r.len) c.requires.roomy.spans (lit< tt) (omega (arith, c.requires.len_bound)) (omega (arith, c.requires.len_bound))

pub record-requires : goal.record-requires
record-requires c =
    record { sound = c.requires.roomy.repairs; dropped = omega (arith, c.requires.roomy.dropped) }

pub returns : goal.returns
returns c =
    let a = c.args in
    let m = c.mark in
    let q = c.record in
    mended_noted a.span_capacity a.repair_capacity a.notes.now m.new.self a.spans.now m.new.spans a.repairs.now q.new.repairs a.r
    q.new.self q.ensures
    m.ensures
