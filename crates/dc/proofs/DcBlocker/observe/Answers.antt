-- `dc::DcBlocker::observe`: what is counted before place k, and what is left from k on, give the same. Assumes nothing.
use Rattle.std.proofs.Common.{refl, arith}
use Rattle.rules.proofs.laws.ListLaws.{bit}
use Rattle.dc.proofs.laws.Runs.{counting_start, counting_next, counting_end}
use Rattle.dc.proofs.DcBlocker.observe.Goals as goal

pub loop-w-init : goal.loop-w-init
loop-w-init c = counting_start _ _

pub observe_sample-requires : goal.observe_sample-requires
observe_sample-requires c = omega (arith, c.loop-w.invariant.updates)

pub overflow_add-clamped : goal.overflow_add-clamped
overflow_add-clamped c = omega (arith, c.loop-w.invariant.few, bit c.observe_sample.result)

pub loop-w-preserved : goal.loop-w-preserved
loop-w-preserved c =
    let e = c.observe_sample.ensures in
    counting_next _ _ _ _ _ _ _ _ _ refl c.loop-w-test.true refl e.after e.clamped c.loop-w.invariant

pub returns : goal.returns
returns c =
    let end = counting_end _ _ _ _ _ _ c.loop-w-test.false c.loop-w.invariant in
    record { after = end.0; counted = end.1 }
