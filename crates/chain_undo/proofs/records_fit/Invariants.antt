-- `chain_undo::records_fit`: each record before number i fits. Assumes nothing.
use Rattle.std.proofs.Common.{◌≡◌, ℕ, Bool, true, List}
use Rattle.stage_log.specs.Check.{all_to}
use Rattle.chain_undo.specs.Undoing.{record_in, record_fits}
use Rattle.chain_undo.proofs.laws.Records.{place_of}
use Rattle.chain_undo.proofs.records_fit.Given as goal

abbrev pub test : List ℕ → ℕ → ℕ → ℕ → Bool
test ws cap head i = record_fits (record_in ws (place_of cap head i))

abbrev pub invariant-loop-i : goal.invariant-loop-i
invariant-loop-i l = all_to (test l.repairs l.capacity l.ring.head) l.i ≡ true
