-- `dc::DcBlocker::process`: what is written and counted before place k, and what is left from k on, give the same. Assumes nothing.
use Rattle.std.proofs.Common.{◌≤◌, length, refl, arith}
use Rattle.rules.proofs.laws.ListLaws.{bit}
use Rattle.dc.proofs.laws.Runs.{counting_start, counting_end, processing_next, processing_end}
use Rattle.dc.proofs.DcBlocker.process.Goals as goal

pub loop-w-init : goal.loop-w-init
loop-w-init c = record { same = refl; counting = counting_start _ _; written = refl }

pub process_sample-taken-requires : goal.process_sample-taken-requires
process_sample-taken-requires c = omega (arith, c.loop-w.invariant.counting.updates)

pub overflow_add-clamped : goal.overflow_add-clamped
overflow_add-clamped c = omega (arith, c.loop-w.invariant.counting.few, bit c.process_sample-taken.result.clamped)

pub loop-w-preserved : goal.loop-w-preserved
loop-w-preserved c =
    let e = c.process_sample-taken.ensures in
    processing_next _ _ _ _ _ _ _ _ (omega arith) e.after e.answer c.loop-w.invariant

pub returns : goal.returns
returns c =
    let l = c.loop-w in
    let all : length l.samples ≤ l.w-index = omega arith in
    let end = counting_end _ _ _ _ _ _ all l.invariant.counting in
    record { after = end.0; counted = end.1; written = processing_end _ _ _ _ _ _ all l.invariant }
