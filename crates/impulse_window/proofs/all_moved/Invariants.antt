-- `impulse_window::all_moved`: those before place k are moved. Assumes nothing.
use Rattle.std.proofs.Common.{◌≡◌, ℕ, ◌<◌, ◌+◌, ◌-◌, length, get_or}
use lib.Ieee.{nan}
use Rattle.rules.specs.Impulse.{window_size}
use Rattle.impulse_window.specs.Rising.{moved}
use Rattle.impulse_window.proofs.all_moved.Given as goal

abbrev pub invariant-loop-k : goal.invariant-loop-k
invariant-loop-k l =
    (length l.out ≡ window_size - 1)
    × ((j : ℕ) → j < l.k → get_or l.out j nan ≡ moved l.old (get_or l.sorted j nan) (get_or l.sorted (j + 1) nan))
