-- `dc::DcBlocker::process`: what is written and counted before place k, and what is left from k on, give the same. Assumes nothing.
use Rattle.dc.proofs.laws.Runs.{Processing}
use Rattle.dc.proofs.DcBlocker.process.Given as goal

abbrev pub invariant-loop-w : goal.invariant-loop-w
invariant-loop-w l = Processing l.initial.blocker l.initial.samples l.blocker l.clamped l.samples l.w-index
