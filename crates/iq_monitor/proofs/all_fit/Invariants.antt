-- `iq_monitor::all_fit` counts the words that do not fit. Assumes nothing.
use mathlib.Core.Path.{◌≡◌}
use mathlib.Core.Bool.{◌&&◌}
use lib.Dec.{eqb}
use lib.ListN.{drop}
use Prim.Native.Nat.{◌≤◌}
use Rattle.rules.specs.Lists.{all_of}
use Rattle.iq_monitor.specs.Words.{sum_fits}
use Rattle.iq_monitor.proofs.all_fit.Given as goal

abbrev pub invariant-loop-word : goal.invariant-loop-word
invariant-loop-word l =
    (l.others ≤ l.word-index)
    × ((eqb l.others 0 && all_of sum_fits (drop l.word-index l.words)) ≡ all_of sum_fits l.words)
