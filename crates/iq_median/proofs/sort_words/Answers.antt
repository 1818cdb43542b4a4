-- `iq_median::sort_words` sorts from the end on. Assumes nothing.
use native.Mathlib.Omega.{arith}
use Rattle.iq_median.proofs.Lists.{sorting_none, sorting_next, sorting_all, sorting_length}
use Rattle.iq_median.proofs.sort_words.Goals as goal

pub loop-k-init : goal.loop-k-init
loop-k-init c = sorting_none _

pub sink-requires : goal.sink-requires
sink-requires c = let l = c.loop-k in let h = sorting_length c.args.part.now l.part l.k l.invariant in
    omega arith

pub loop-k-preserved : goal.loop-k-preserved
loop-k-preserved c = let l = c.loop-k in
    sorting_next c.args.part.now l.part _ l.k
    c.loop-k-test.true c.sink.ensures l.invariant

pub shape_of-part : goal.shape_of-part
shape_of-part c = let l = c.loop-k in sorting_length c.args.part.now l.part l.k l.invariant

pub returns : goal.returns
returns c = let l = c.loop-k in sorting_all c.args.part.now l.part l.k c.loop-k-test.false l.invariant
