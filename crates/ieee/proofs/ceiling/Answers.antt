-- `ieee::ceiling` adds what is one less than the divisor. Assumes nothing.
use Rattle.std.proofs.Common.{rules}
use Rattle.ieee.proofs.Wholes.{ceil_rule}
use Rattle.ieee.specs.Whole.{ceil_div}
use Rattle.ieee.proofs.ceiling.Goals as goal

pub returns : goal.returns
returns c = c.whole.ensures ceil_div (record { rule = ceil_rule; cut = λ a r y l p. search rules })
