-- `iq_median::selected_floor` reads the two powers where the search has them. Assumes nothing.
use mathlib.Core.Path.{subst}
use lib.ListN.{length}
use Rattle.iq_median.specs.Select.{Selected}
use Rattle.iq_median.proofs.Selecting.{floor_found}
use Rattle.iq_median.proofs.selected_floor.Goals as goal
use Prim.Native.Nat.{◌-◌, ◌/◌}

pub returns : goal.returns
returns c =
    let ps = c.args.powers.now in
    let k = c.select-s in
    let found = subst (λ l. Selected l ((length ps - 1) / 2) k.new.part k.result) c.requires.copied k.ensures in
    floor_found ps _ _ c.requires.some found _ c.upper_power-q.ensures
