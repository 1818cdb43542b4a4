-- `iq_median::keep` moves the words that are kept to the front, one a turn. Assumes nothing.
use mathlib.Core.Path.{refl, sym, subst}
use mathlib.Core.Bool.{Bool}
use mir.Val.{bool_byte}
use Prim.Native.Nat.{◌+◌}
use native.Mathlib.Omega.{arith}
use lib.ListN.{get_or, set}
use lib.Ieee.{nan}
use Rattle.rules.proofs.laws.ListLaws.{bit}
use Rattle.iq_median.proofs.Selecting.{Kept, kept_next, kept_all}
use Rattle.iq_median.proofs.keep.Goals as goal

pub loop-k-init : goal.loop-k-init
loop-k-init g c = (omega arith, λ t h. (omega arith, omega arith, refl, refl))

pub offset_bounds-part-kept : goal.offset_bounds-part-kept
offset_bounds-part-kept g c = omega (arith, c.loop-k.invariant.0)

pub bounds-part-kept : goal.bounds-part-kept
bounds-part-kept g c = omega (arith, c.loop-k.invariant.0)

pub overflow_add-kept : goal.overflow_add-kept
overflow_add-kept g c = let b = bit c.keeps.result in omega (arith, c.loop-k.invariant.0)

pub loop-k-preserved : goal.loop-k-preserved
loop-k-preserved g c = let v = c.loop-k in
    let b = bit c.keeps.result in (
      omega (arith, v.invariant.0),
      λ t h.
          let x = get_or v.part v.k nan in
          subst (λ (b : Bool). Kept t c.args.part.now (set v.part v.kept x) (v.k + 1) (v.kept + bool_byte b))
          (sym (h x c.keeps.result c.keeps.ensures))
          (kept_next t nan c.args.part.now v.part v.k v.kept (omega arith) (v.invariant.1 t h)),
    )

pub returns-clause-most : goal.returns-clause-most
returns-clause-most g c = omega (arith, c.loop-k.invariant.0)

pub returns-clause-kept : goal.returns-clause-kept
returns-clause-kept g c = let v = c.loop-k in
    λ t h. (kept_all t c.args.part.now v.part v.k v.kept (omega arith) (v.invariant.1 t h)).1
