-- `chain_words::put_log`: the rings, then the counts. Assumes nothing.
use mathlib.Core.Path.{◌≡◌, ap, ◌∙◌}
use Prim.Native.Nat.{ℕ, ◌+◌}
use native.Mathlib.Omega.{arith}
use lib.ListN.{take}
use Rattle.chain_words.specs.Words.{rings_words, samples_words}
use Rattle.chain_words.proofs.Filling.{two}
use Rattle.chain_words.proofs.put_log.Goals as goal

pub put_samples-requires : goal.put_samples-requires
put_samples-requires c = omega (arith, c.put_rings.ensures.sized, c.requires)

pub returns : goal.returns
returns c =
    let at = c.args.at in
    let l = c.args.log in
    let r = c.put_rings in
    let s = c.put_samples in
    let e : at + 48 ≡ at + 36 + 12 = omega arith in
    let last = ap (λ (i : ℕ). take i s.new.words) e ∙ s.ensures.front in
    record {
      front = two (take at c.args.words.now) (rings_words l.marks) (samples_words l.marks) r.ensures.front last;
      sized = s.ensures.sized ∙ r.ensures.sized;
    }
