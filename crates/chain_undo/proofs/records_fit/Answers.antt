-- `chain_undo::records_fit` meets its contract: each record before number i fits. Assumes nothing.
use Rattle.std.proofs.Common.{◌≡◌, refl, sym, ◌∙◌, add-one, arith}
use Rattle.stage_log.specs.Check.{all_to}
use Rattle.stage_log.proofs.laws.CheckLaws.{all_next, all_not}
use Rattle.stage_log.specs.View.{ring_in}
use Rattle.chain_undo.proofs.laws.Records.{held_fit}
use Rattle.chain_undo.proofs.records_fit.Invariants.{test}
use Rattle.chain_undo.proofs.records_fit.Goals as goal

pub loop-i-init : goal.loop-i-init
unfolding all_to
loop-i-init c = refl

pub returns-then-not-record_fits : goal.returns-then-not-record_fits
returns-then-not-record_fits c =
    let a = c.args in
    sym (held_fit a.capacity (ring_in a.ring a.repairs.now)
    ∙ all_not (test a.repairs.now a.capacity a.ring.head) a.ring.count c.loop-i.i c.loop-i-test.true
    (sym c.record_fits.ensures ∙ c.if-not-record_fits.true))

pub loop-i-preserved : goal.loop-i-preserved
loop-i-preserved c =
    let a = c.args in
    let l = c.loop-i in
    rw (add-one l.i)
    (all_next (test a.repairs.now a.capacity a.ring.head) l.i l.invariant (sym c.record_fits.ensures ∙ c.if-not-record_fits.false))

pub returns : goal.returns
returns c =
    let a = c.args in
    let l = c.loop-i in
    let e : l.i ≡ a.ring.count = omega arith in
    sym (held_fit a.capacity (ring_in a.ring a.repairs.now) ∙ rw e at l.invariant)
