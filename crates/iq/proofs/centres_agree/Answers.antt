-- `iq::centres_agree` is `centres_agree`: a size at most 1.0 is a number from -1.0 to 1.0. Assumes nothing.
use Rattle.std.proofs.Common.{◌≡◌, Bool, ◌&&◌, pos, sym, ap, ◌∙◌}
use lib.Ieee.{Float, binary64, sub, neg, le, of_bits}
use Rattle.rules.specs.Constants.{one}
use Rattle.rules.specs.Guard.{magnitude}
use Rattle.rules.proofs.laws.SizeLaws.{size-le}
use Rattle.rules.specs.Iq.{ranged, centres_agree}
use Rattle.iq.proofs.centres_agree.Goals as goal

near : (x : Float) → ranged (neg one) one x ≡ le (magnitude x) one
unfolding neg of_bits
near x = sym (size-le x 1 (pos 0))

pub returns-then-finite_positive : goal.returns-then-finite_positive
unfolding centres_agree
returns-then-finite_positive c =
    let a = c.args in
    let off = sub binary64 a.calibrated a.receiver in
    c.in_range.ensures
    ∙ near off
    ∙ sym (ap (λ (t : Bool). t && le (magnitude off) one) (sym c.finite_positive.ensures ∙ c.if-finite_positive.true))

pub returns-else-finite_positive : goal.returns-else-finite_positive
unfolding centres_agree
returns-else-finite_positive c =
    let a = c.args in
    c.if-finite_positive.false ∙
    sym (ap (λ (t : Bool). t && le (magnitude (sub binary64 a.calibrated a.receiver)) one) (sym c.finite_positive.ensures ∙ c.if-finite_positive.false))
