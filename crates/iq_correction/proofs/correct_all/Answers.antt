-- `iq_correction::correct_all` is the map of `corrected`. Assumes nothing.
use Rattle.complex.specs.View.{view64}
use Rattle.iq_correction.proofs.laws.GroupLaws.{small}
use Rattle.iq_correction.proofs.laws.GroupRuns.{mapping_rest}
use Rattle.iq_correction.proofs.correct_all.Goals as goal

pub correct_groups-k-requires : goal.correct_groups-k-requires
correct_groups-k-requires c =
    small (view64 c.args.rho) c.is_small.ensures c.if-not-is_small.false

pub returns : goal.returns
returns c = mapping_rest _ _ _ _ _ c.correct_each-2.ensures c.correct_groups-k.ensures
