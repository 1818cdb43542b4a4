-- `iq_monitor::terms_of` is the power and the product of channel k. Assumes nothing.
use Rattle.iq_monitor.proofs.Limit.{within_number}
use Rattle.iq_monitor.proofs.Turns.{mirror_lt}
use Rattle.iq_monitor.proofs.terms_of.Goals as goal

pub wide-v-requires : goal.wide-v-requires
wide-v-requires c = within_number c.args.x.now c.args.k c.requires.within c.requires.k_in_bounds

pub wide-w-requires : goal.wide-w-requires
wide-w-requires c = within_number c.args.x.now _ c.requires.within (mirror_lt _ _ _ c.mirror-m.ensures c.requires.k_in_bounds)
