-- `dc::clamp` is `push_of`: the root is taken only of a power above 1. Assumes nothing.
use Rattle.std.proofs.Common.{true, false, sym, ap, ◌∙◌}
use lib.Ieee.{le}
use Rattle.complex.specs.declared.Complex64.{Complex64}
use Rattle.complex.specs.View.{view64}
use Rattle.rules.specs.Constants.{one}
use Rattle.dc.proofs.laws.Clamp.{clamp_plain, clamp_by}
use Rattle.dc.proofs.clamp.Goals as goal

pub returns-then-p : goal.returns-then-p
returns-then-p c = clamp_plain c.args.y (ap (λ p. le p one) (sym c.norm_sqr-p.ensures) ∙ c.if-p.true)

pub returns-then-m : goal.returns-then-m
returns-then-m c =
    let y = view64 c.args.y in
    ap (λ (z : Complex64). record { by = z; clamped = true }) c.scale.ensures
    ∙ clamp_by y _ _ true c.norm_sqr-p.ensures c.root-m.ensures c.if-m.true

pub returns : goal.returns
returns c =
    let y = view64 c.args.y in
    clamp_by y _ _ false c.norm_sqr-p.ensures c.root-m.ensures c.if-m.false
