-- `dc::restore` writes `restored_all`. The invariant: what is written before place k, and what is left from k on, give the same. Assumes nothing.
use Rattle.rules.specs.Dc.{corner, first_level}
use Rattle.dc.specs.Blocker.{blocker_of}
use Rattle.dc.proofs.laws.Runs.{Undoing}
use Rattle.dc.proofs.restore.Given as goal

abbrev pub invariant-loop-k : goal.invariant-loop-k
invariant-loop-k l = Undoing (blocker_of (corner l.fs) first_level) l.y l.blocker l.out l.k
