-- `iq_median::next_power` is p again or the least above p. Assumes nothing.
use mathlib.Core.Path.{◌∙◌}
use native.Mathlib.Omega.{arith}
use lib.Ieee.{lt}
use Rattle.iq_median.proofs.Selecting.{passing_length, next_same, next_above}
use Rattle.iq_median.proofs.next_power.Goals as goal

pub overflow_sub-powers : goal.overflow_sub-powers
overflow_sub-powers c = let a = c.args in let n = passing_length (λ x. lt a.p x) a.powers.now in
    omega (arith, c.count_sides-r.ensures.1)

pub returns-then-k-powers : goal.returns-then-k-powers
returns-then-k-powers c = next_same c.args.powers.now c.args.k c.args.p c.count_sides-r.result.above c.requires.plain c.requires.next c.requires.power
    c.count_sides-r.ensures.1 c.if-k-powers.true

pub returns : goal.returns
returns c = c.least_above.ensures
    ∙ next_above c.args.powers.now c.args.k c.args.p c.count_sides-r.result.above c.requires.plain c.requires.next
    c.requires.power c.count_sides-r.ensures.1 c.if-k-powers.false
