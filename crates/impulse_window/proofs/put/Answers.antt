-- `impulse_window::put` meets its contract: the powers between the gap and the new place move by one. Assumes nothing.
use mathlib.Core.Path.{◌≡◌}
use native.Mathlib.Omega.{arith}
use lib.ListN.{length}
use borrow.Author.Rules.{rules}
use Rattle.rules.specs.Impulse.{window_size}
use Rattle.impulse_window.proofs.Places.{put_below, put_above}
use Rattle.impulse_window.proofs.put.Goals as goal
use Rattle.impulse_window.proofs.put.Goals.{then-at-gap, else-at-gap}

pub returns : goal.returns
returns c =
    let a = c.args in
    let n : length a.sorted.now ≡ window_size = search rules in
    elim c.if-at-gap.branch [
      | then-at-gap w ↦ rw (w.sorted-is, w.copy_within.ensures.after) (put_below a.sorted.now a.gap a.at a.p (omega arith) (omega arith))
      | else-at-gap w ↦ rw (w.sorted-is, w.copy_within-else-at-gap.ensures.after) (put_above a.sorted.now a.gap a.at a.p (omega arith) (omega arith))
    ]
