-- `ieee::rounded` meets its contract by either way of rounding. Assumes nothing.
use Rattle.std.proofs.Common.{T, sym, ◌∙◌, subst}
use Rattle.ieee.proofs.rounded.Goals as goal

pub round_normal-requires : goal.round_normal-requires
round_normal-requires c = subst T (sym c.if-is_normal.true ∙ c.is_normal.ensures) tt
