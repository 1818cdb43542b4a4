-- `chain_undo::undo_records` undoes one record a turn, oldest first. Assumes nothing.
use Rattle.std.proofs.Common.{◌≡◌, ℕ, List}
use Rattle.rules.specs.Lists.{up_to}
use Rattle.rules.specs.Undo.{undone_all}
use Rattle.chain_undo.specs.Undoing.{record_in}
use Rattle.chain_undo.proofs.laws.Records.{place_of}
use Rattle.chain_undo.proofs.undo_records.Given as goal

-- record i of a store
abbrev pub held_in : List ℕ → ℕ → ℕ → ℕ → List ℕ
held_in ws cap head i = record_in ws (place_of cap head i)

abbrev pub invariant-loop-i : goal.invariant-loop-i
invariant-loop-i l = l.samples ≡ undone_all l.first (up_to (held_in l.repairs l.capacity l.ring.head) l.i) l.initial.samples
