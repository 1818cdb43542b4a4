-- `vatgorge::config::calibration_at`: by its tag. Assumes nothing.
use borrow.Author.Tests.{ne_eqb}
use Rattle.vatgorge.proofs.config.calibration_at.Goals as goal

pub returns-then-w-eq0 : goal.returns-then-w-eq0
returns-then-w-eq0 c = rw c.if-w-eq0.true

pub returns : goal.returns
returns c =
    rw (
      c.from_bits64-3.ensures,
      c.from_bits64-2.ensures,
      c.from_bits64.ensures,
      ne_eqb _ 0 c.if-w-eq0.false,
    )
