-- `iq_median::select` narrows what is searched, a turn at a time, and sorts what is left. Assumes nothing.
use Rattle.iq_median.proofs.Selecting.{Going}
use Rattle.iq_median.proofs.select.Given as goal

abbrev pub invariant-loop-s : goal.invariant-loop-s
invariant-loop-s l = Going l.initial.part l.place l.part l.s

abbrev pub decreases-loop-s : goal.decreases-loop-s
decreases-loop-s l = l.s.left
