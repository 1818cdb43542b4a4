-- `chain_undo::record_fits` tests the length and the start. Assumes nothing.
use Rattle.std.proofs.Common.{arith}
use Rattle.std.proofs.lemmas.Grind.{common_steps}
use Rattle.chain_undo.specs.Undoing.{record_fits}
use Rattle.chain_undo.proofs.laws.Records.{record_start, record_length}
use Rattle.chain_undo.proofs.record_fits.Goals as goal

pub returns-then-len : goal.returns-then-len
unfolding record_fits
returns-then-len c =
    let a = c.args in
    grind (arith, common_steps, record_start a.repairs.now a.place, record_length a.repairs.now a.place)

pub returns-else-len : goal.returns-else-len
unfolding record_fits
returns-else-len c =
    let a = c.args in
    grind (arith, common_steps, record_start a.repairs.now a.place, record_length a.repairs.now a.place)
