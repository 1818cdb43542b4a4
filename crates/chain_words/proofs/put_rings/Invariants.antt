-- `chain_words::put_rings`: ring by ring. Assumes nothing.
use mathlib.Core.List.{◌++◌}
use mathlib.Core.Path.{◌≡◌}
use Prim.Native.Nat.{◌+◌, ◌*◌, ◌≤◌}
use lib.ListN.{length, take}
use Rattle.chain_words.specs.Words.{rings_words}
use Rattle.chain_words.proofs.put_rings.Given as goal

abbrev pub invariant-loop-k : goal.invariant-loop-k
invariant-loop-k l = (l.k ≤ 12) × (length l.words ≡ length l.initial.words) × (take (l.at + l.k * 3) l.words ≡ take l.at l.initial.words ++ rings_words (take l.k l.fn.log.marks))
