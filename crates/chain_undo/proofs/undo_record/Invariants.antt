-- `chain_undo::undo_record` puts one original back a turn. Assumes nothing.
use Rattle.std.proofs.Common.{◌≡◌}
use Rattle.rules.specs.Undo.{undone}
use Rattle.chain_undo.specs.Undoing.{record_in}
use Rattle.chain_undo.proofs.undo_record.Given as goal

abbrev pub invariant-loop-t : goal.invariant-loop-t
invariant-loop-t l = l.samples ≡ undone l.first (record_in l.repairs l.place) l.t l.initial.samples
