-- `iq_median::select` narrows what is searched, a turn at a time, and sorts what is left. Assumes nothing.
use mathlib.Core.Path.{refl, sym}
use native.Mathlib.Omega.{arith}
use lib.Seq.{length-take-le}
use Rattle.iq_median.proofs.Selecting.{going_first, going_next, found_length, found}
use Rattle.iq_median.proofs.select.Goals as goal

pub loop-s-init : goal.loop-s-init
loop-s-init c = going_first c.args.part.now c.args.place _ refl refl c.requires.inside c.requires.plain

pub turn-requires : goal.turn-requires
turn-requires c = let v = c.loop-s in
    record {
      window = v.invariant.0;
      many = (let h = c.loop-s-test.true in omega arith);
      turns = c.if-s-gt0.true;
    }

pub loop-s-smaller : goal.loop-s-smaller
loop-s-smaller c = omega (arith, c.turn.ensures.turns)

pub loop-s-preserved : goal.loop-s-preserved
loop-s-preserved c = let v = c.loop-s in
    let a = c.args in let k = c.turn in
    going_next a.part.now a.place v.part _ v.s _ v.invariant k.auto.part k.ensures

pub slice_bounds-sort_words-end : goal.slice_bounds-sort_words-end
slice_bounds-sort_words-end c = c.loop-s.invariant.0.most

pub slice_bounds-sort_words-end-2 : goal.slice_bounds-sort_words-end-2
slice_bounds-sort_words-end-2 c = let v = c.loop-s in sym (length-take-le v.s.count v.part v.invariant.0.most)

pub shape_of-part : goal.shape_of-part
shape_of-part c = let v = c.loop-s in
    let a = c.args in
    found_length a.part.now a.place v.part _ v.s v.invariant c.sort_words.ensures

pub returns : goal.returns
returns c = let v = c.loop-s in
    let a = c.args in
    found a.part.now a.place v.part _ v.s v.invariant c.sort_words.ensures
