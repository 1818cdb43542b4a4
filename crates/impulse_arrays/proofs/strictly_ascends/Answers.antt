-- `impulse_arrays::strictly_ascends` meets its contract: the powers passed ascend strictly. Assumes nothing.
use mathlib.Core.Path.{◌≡◌, sym, ◌∙◌}
use Prim.Native.Nat.{suc}
use native.Mathlib.Omega.{arith}
use lib.Ieee.{nan, lt, of_bits}
use lib.ListN.{take}
use lib.Seq.{take_all}
use Rattle.rules.specs.Constants.{zero_f}
use Rattle.impulse_window.proofs.Blends.{climbs_one, held_more, further}
use Rattle.impulse_arrays.proofs.strictly_ascends.Goals as goal

pub loop-k-init : goal.loop-k-init
unfolding of_bits
loop-k-init c =
    let l = c.args.sorted.now in
    let e = c.below-rising.ensures in
    (e.result ∙ sym (climbs_one lt zero_f l nan (omega arith)), held_more l 0 nan (omega arith) tt e.values.1)

pub loop-k-preserved : goal.loop-k-preserved
loop-k-preserved c =
    let l = c.args.sorted.now in
    let i = c.loop-k in
    let e = c.below-rising-in-loop-k.ensures in
    let f = further lt l i.k i.rising c.below-rising-in-loop-k.result (omega arith) i.invariant.0 i.invariant.1 e.result e.values.1 in
    (f.0, f.1)

pub returns : goal.returns
returns c =
    let l = c.args.sorted.now in
    let i = c.loop-k in
    let all : take (suc i.k) l ≡ l = take_all (suc i.k) l (omega arith) in
    record {
      result = rw all at i.invariant.0;
      values = rw all at i.invariant.1;
    }
