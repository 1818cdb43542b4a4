-- `chain_words::write_arrays`: one behind another. Assumes nothing.
use mathlib.Core.List.{◌++◌}
use mathlib.Core.Path.{◌≡◌, refl}
use Prim.Native.Nat.{◌+◌}
use native.Mathlib.Omega.{arith}
use lib.ListN.{length, take}
use Rattle.rules.specs.Impulse.{lookahead_size}
use Rattle.chain_words.specs.Words.{powers_words}
use Rattle.chain_words.specs.Places as place
use Rattle.chain_words.proofs.Filling.{behind, two}
use Rattle.chain_words.proofs.write_arrays.Goals as goal

pub put-requires : goal.put-requires
put-requires c =
    let pending = c.args.m.pending in
    let n : length pending ≡ lookahead_size = c.well_formed.0.1.1.1.1.1.0.1.0.1 in
    omega (arith, c.put_powers-2.ensures.sized, c.put_powers.ensures.sized)

pub returns : goal.returns
returns c =
    let w₀ = c.args.words.now in
    let window = powers_words c.args.m.window in
    let sorted = powers_words c.args.m.sorted in
    let pending = c.args.m.pending in
    let n : length pending ≡ lookahead_size = c.well_formed.0.1.1.1.1.1.0.1.0.1 in
    let e : place.pending + length pending ≡ place.rings = omega arith in
    let put = c.put_powers in
    let put2 = c.put_powers-2 in
    let put3 = c.put in
    let w = put.new.words in
    let w2 = put2.new.words in
    let w3 = put3.new.words in
    let last = behind place.pending place.rings (take place.pending w2) pending pending w2 w3 refl refl e put3.ensures.front in
    let later = two (take place.sorted w) sorted pending put2.ensures.front last in
    let all = two (take place.window w₀) window (sorted ++ pending) put.ensures.front later in
    record {
      front = all;
      held = (put.ensures.held, put2.ensures.held);
    }
