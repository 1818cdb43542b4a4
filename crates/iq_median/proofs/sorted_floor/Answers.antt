-- `iq_median::sorted_floor` reads the two in the middle of the sorted powers. Assumes nothing.
use Rattle.iq_median.proofs.Lists.{floor_read}
use Rattle.iq_median.proofs.sorted_floor.Goals as goal

pub returns : goal.returns
returns c = floor_read c.args.powers.now _ c.requires c.sort_words.ensures
