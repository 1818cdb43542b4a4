-- Twelve rings: their numbers. Assumes nothing.
use Rattle.std.specs.Prelude.{◌<◌}
use Rattle.std.proofs.Common.{arith}
use Rattle.rules.specs.Log.{stage_number, mark_number, ring_number}
use Rattle.stage_log.specs.declared.Stage.{Stage}
use Rattle.stage_log.specs.declared.Stage.TheVariants.{Impulse, Dc, Iq}
use Rattle.stage_log.specs.declared.Mark.{Mark}
use Rattle.stage_log.specs.declared.Mark.TheVariants.{Repaired, Flagged, Corrected, Uncertain}
use Rattle.stage_log.specs.View.{stage_of, mark_of}

pub stage_few : (s : Stage) → stage_number (stage_of s) < 3
stage_few Impulse = omega arith
stage_few Dc = omega arith
stage_few Iq = omega arith

pub mark_few : (m : Mark) → mark_number (mark_of m) < 4
mark_few Repaired = omega arith
mark_few Flagged = omega arith
mark_few Corrected = omega arith
mark_few Uncertain = omega arith

pub ring_few : (s : Stage) (m : Mark) → ring_number (stage_of s) (mark_of m) < 12
ring_few s m = omega (arith, stage_few s, mark_few m)
