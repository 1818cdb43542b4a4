-- `amplitude_limit::all_under` puts the bits of all samples together. Assumes nothing.
use mathlib.Core.Path.{refl, ap, ◌∙◌}
use mathlib.Core.Bool.{Bool, ◌&&◌}
use Prim.Native.Nat.{◌+◌}
use native.Mathlib.Omega.{arith}
use lib.ListN.{drop}
use Rattle.rules.specs.Lists.{all_of}
use Rattle.rules.proofs.laws.ListLaws.{good_next, good_done}
use Rattle.amplitude_limit.specs.Limit.{under, halves_clear}
use Rattle.amplitude_limit.proofs.Halves.{or_clear}
use Rattle.amplitude_limit.proofs.all_under.Goals as goal

pub loop-w-init : goal.loop-w-init
unfolding halves_clear
loop-w-init c = (omega arith, refl)

pub loop-w-preserved : goal.loop-w-preserved
loop-w-preserved c =
    let l = c.args.samples.now in
    let limit = c.args.limit in
    let v = c.loop-w in
    let b = c.raised-bits in (
      omega arith,
      ap (λ (t : Bool). t && all_of (under limit) (drop (v.w-index + 1) l)) (or_clear v.bits b.result)
          ∙ good_next (under limit) 0 l v.w-index (halves_clear v.bits) (halves_clear b.result) c.loop-w-test.true b.ensures v.invariant.1,
    )

pub returns : goal.returns
returns c =
    let v = c.loop-w in
    c.halves_clear.ensures
    ∙ good_done (under c.args.limit) c.args.samples.now v.w-index
    (halves_clear v.bits) c.loop-w-test.false v.invariant.1
