-- `iq_correction::correct_group` is the map of `corrected`, by either way. Assumes nothing.
use Rattle.std.proofs.Common.{sym, ◌∙◌}
use Rattle.iq_correction.proofs.correct_group.Goals as goal

pub try_group-requires : goal.try_group-requires
try_group-requires c =
    record { small = c.requires.small; whole = c.requires.whole; finite = sym c.all_under.ensures ∙ c.if-all_under.true }
