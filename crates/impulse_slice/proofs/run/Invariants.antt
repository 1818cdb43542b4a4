-- `impulse_slice::run` meets its contract. Assumes nothing.
use mathlib.Core.Path.{◌≡◌}
use lib.ListN.{length}
use Rattle.impulse_slice.specs.Noted.{noted_of}
use Rattle.impulse_slice.proofs.Turns.{Going}
use Rattle.impulse_slice.proofs.run.Given as goal

abbrev pub invariant-loop-k : goal.invariant-loop-k
invariant-loop-k l =
    Going l.span_capacity l.repair_capacity l.held l.initial.suppressor (noted_of l.initial.notes l.initial.spans l.initial.repairs) l.initial.samples
    l.suppressor (noted_of l.notes l.spans l.repairs) l.samples l.out l.k
    × (length l.spans ≡ length l.initial.spans)
    × (length l.repairs ≡ length l.initial.repairs)
