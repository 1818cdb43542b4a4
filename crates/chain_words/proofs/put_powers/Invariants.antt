-- `chain_words::put_powers`: word by word. Assumes nothing.
use lib.ListN.{take}
use Rattle.impulse_window.specs.Rising.{Held}
use Rattle.rules.specs.Lists.{All}
use Rattle.chain_words.specs.Words.{powers_words}
use Rattle.chain_words.proofs.Filling.{Filled}
use Rattle.chain_words.proofs.put_powers.Given as goal

abbrev pub invariant-loop-k : goal.invariant-loop-k
invariant-loop-k l = Filled (powers_words l.powers) l.at l.initial.words l.words l.k × All Held (take l.k l.powers)
