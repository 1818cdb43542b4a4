-- `dc::DcBlocker::observe`: what is counted before place k, and what is left from k on, give the same. Assumes nothing.
use Rattle.dc.proofs.laws.Runs.{Counting}
use Rattle.dc.proofs.DcBlocker.observe.Given as goal

abbrev pub invariant-loop-w : goal.invariant-loop-w
invariant-loop-w l = Counting l.initial.blocker l.samples l.blocker l.clamped l.samples l.w-index
