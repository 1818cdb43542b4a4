-- `iq_monitor::add_terms` writes the four words of a channel. Assumes nothing.
use mathlib.Core.Path.{refl}
use Rattle.iq_monitor.specs.Words.{added_terms}
use Rattle.iq_monitor.proofs.add_terms.Goals as goal

pub returns : goal.returns
unfolding added_terms
returns c = refl
