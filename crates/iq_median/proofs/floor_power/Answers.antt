-- `iq_median::floor_power` selects where the order of the powers is total, and sorts where it is not. Assumes nothing.
use mathlib.Core.Path.{sym, ◌∙◌}
use Rattle.iq_median.proofs.Selecting.{all_are_plain}
use Rattle.iq_median.proofs.floor_power.Goals as goal

pub selected_floor-requires-clause-plain : goal.selected_floor-requires-clause-plain
selected_floor-requires-clause-plain c =
    let t = c.all_plain.ensures in
    all_are_plain _ (sym t.0 ∙ c.if-all_plain.true) t.1
