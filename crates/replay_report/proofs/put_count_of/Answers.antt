-- `replay_report::put_count_of`: the count of the ring that the stage and the kind name. Assumes nothing.
use Prim.Native.Nat.{◌<◌}
use native.Mathlib.Omega.{arith}
use Rattle.stage_log.proofs.laws.RingNumbers.{ring_few}
use Rattle.replay_report.proofs.put_count_of.Goals as goal
use Rattle.replay_report.proofs.put_count_of.Goals.{After-ring_number}

few : (c : After-ring_number) → c.ring_number.result < 12
few c = let a = c.args in omega (arith, c.ring_number.ensures, ring_few a.stage a.kind)

pub offset_bounds-log-ring_number : goal.offset_bounds-log-ring_number
offset_bounds-log-ring_number c = omega (arith, few (goal.at.offset_bounds-log-ring_number c).After-ring_number)

pub bounds-log-ring_number : goal.bounds-log-ring_number
bounds-log-ring_number c = few (goal.at.bounds-log-ring_number c).After-ring_number

pub returns : goal.returns
returns c = rw c.ring_number.ensures at c.put_count.ensures
