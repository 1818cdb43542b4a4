-- `read_full` stays within the text.
use Rattle.std.proofs.Common.{length, ◌-◌, ◌≤◌}
use Rattle.test_bad_input.proofs.causes.read_full.Given as goal

abbrev pub invariant-loop-size : goal.invariant-loop-size
invariant-loop-size g l = l.size ≤ length l.text

abbrev pub decreases-loop-size : goal.decreases-loop-size
decreases-loop-size g l = length l.initial.text - l.size
