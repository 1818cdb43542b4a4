-- `sample_guard::replace_unusable` meets its contract: the words before the loop's place are guarded, and those from it on are as they were. Assumes nothing.
use Rattle.std.proofs.Common.{sym, ◌∙◌, arith}
use Rattle.sample_guard.proofs.laws.GuardLaws.{guarding_kept, guarding_replaced, guarding_end}
use Rattle.sample_guard.proofs.replace_unusable.Goals as goal
use Rattle.sample_guard.proofs.replace_unusable.Goals.{then-not-is_usable, else-not-is_usable}

pub loop-w-preserved : goal.loop-w-preserved
loop-w-preserved c =
    let l = c.loop-w in
    elim c.if-not-is_usable.branch [
      | then-not-is_usable w ↦ rw (w.samples-is, w.replaced-is) (guarding_replaced _ l.samples l.replaced l.w-index l.invariant (omega arith) (sym c.is_usable.ensures ∙ w.if-not-is_usable.true))
      | else-not-is_usable w ↦ rw (w.samples-is, w.replaced-is) (guarding_kept _ l.samples l.replaced l.w-index l.invariant (omega arith) (sym c.is_usable.ensures ∙ w.if-not-is_usable.false))
    ]

pub returns : goal.returns
returns c =
    let l = c.loop-w in
    let whole = guarding_end _ l.samples l.replaced l.w-index l.invariant (omega arith) in
    record { words = whole.0; count = whole.1 }
