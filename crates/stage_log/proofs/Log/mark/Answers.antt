-- `stage_log::Log::mark` meets its contract. Assumes nothing.
use Rattle.stage_log.proofs.laws.RingNumbers.{ring_few}
use Rattle.stage_log.proofs.Log.mark.Goals as goal

pub mark_at-requires : goal.mark_at-requires
mark_at-requires c =
    let a = c.args in
    rw c.ring_number.ensures (record { which_bound = ring_few a.stage a.kind; fits = c.requires })

pub returns : goal.returns
returns c = rw (← c.ring_number.ensures) c.mark_at.ensures
