-- `iq_correction::correct` is `corrected`, rounded once. Assumes nothing.
use Rattle.iq_correction.proofs.laws.Steps.{corrected_by_lem}
use Rattle.std.proofs.Common.{rules}
use Rattle.iq_correction.proofs.correct.Goals as goal

pub returns : goal.returns
returns c = search (rules, corrected_by_lem)
