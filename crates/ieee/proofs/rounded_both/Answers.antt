-- `ieee::rounded_both` meets its contract by either way of rounding. Assumes nothing.
use Rattle.std.proofs.Common.{T, sym, ◌∙◌, subst}
use Rattle.ieee.proofs.rounded_both.Goals as goal

pub round_normal-requires : goal.round_normal-requires
round_normal-requires c = subst T (sym c.if-is_normal.true ∙ c.is_normal.ensures) tt

pub round_normal-requires-then-is_normal-2 : goal.round_normal-requires-then-is_normal-2
round_normal-requires-then-is_normal-2 c = subst T (sym c.if-is_normal-2.true ∙ c.is_normal-then-is_normal.ensures) tt
