-- `sample_guard::replace_unusable`: the words before the loop's place are guarded, and those from it on are as they were.
use Rattle.sample_guard.proofs.laws.GuardLaws.{Guarding}
use Rattle.sample_guard.proofs.replace_unusable.Given as goal

abbrev pub invariant-loop-w : goal.invariant-loop-w
invariant-loop-w l = Guarding l.initial.samples l.samples l.replaced l.w-index
