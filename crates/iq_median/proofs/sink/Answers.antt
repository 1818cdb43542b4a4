-- `iq_median::sink` inserts the word among those behind it. Assumes nothing.
use mathlib.Core.Path.{refl, ◌∙◌}
use lib.ListN.{get_or, length-set}
use lib.Ieee.{nan}
use Rattle.iq_median.proofs.Lists.{sinking_next, sinking_stop, sinking_end}
use Rattle.iq_median.proofs.sink.Goals as goal
use Rattle.iq_median.proofs.sink.Goals.{then-loop-i-test+else-part-i, else-loop-i-test}

pub loop-i-init : goal.loop-i-init
loop-i-init c = (c.requires, refl, refl)

pub loop-i-preserved : goal.loop-i-preserved
loop-i-preserved c = let s = c.args in let l = c.loop-i in
    sinking_next s.part.now s.k (get_or s.part.now s.k nan) l.part l.i c.loop-i-test.true c.if-part-i.true
    l.invariant

pub shape_of-part : goal.shape_of-part
shape_of-part c = let l = c.loop-i in let s = c.args in length-set l.part l.i (get_or s.part.now s.k nan) ∙ l.invariant.1

pub returns : goal.returns
returns c = let s = c.args in let l = c.loop-i in
    elim c.loop-i-test.branch [
      | then-loop-i-test+else-part-i w ↦
          sinking_stop s.part.now s.k (get_or s.part.now s.k nan) l.part l.i w.if-part-i.false w.loop-i-test.true l.invariant
      | else-loop-i-test w ↦ sinking_end s.part.now s.k (get_or s.part.now s.k nan) l.part l.i w.loop-i-test.false l.invariant
    ]
