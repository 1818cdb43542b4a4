-- `vatgorge::keep`: written where the code is 0. Assumes nothing.
use borrow.Author.Tests.{ne_eqb}
use Rattle.vatgorge.proofs.keep.Goals as goal

pub returns-then-code-eq0 : goal.returns-then-code-eq0
returns-then-code-eq0 c = let zero = c.if-code-eq0.true in
    record {
      words = rw zero c.write_state.ensures.words;
      again = rw zero c.write_state.ensures.again;
    }

pub returns-else-code-eq0 : goal.returns-else-code-eq0
returns-else-code-eq0 c = let other = ne_eqb _ 0 c.if-code-eq0.false in
    record {
      words = rw other;
      again = rw other;
    }
