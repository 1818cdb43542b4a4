-- `stage_log::ring_number` meets its contract. Assumes nothing.
use native.Mathlib.Omega.{arith}
use Rattle.stage_log.proofs.laws.RingNumbers.{stage_few, mark_few}
use Rattle.stage_log.proofs.ring_number.Goals as goal

pub overflow_mul-result : goal.overflow_mul-result
overflow_mul-result c = omega (arith, stage_few c.args.stage)

pub overflow_add-result : goal.overflow_add-result
overflow_add-result c = omega (arith, stage_few c.args.stage, mark_few c.args.kind)
