-- `ieee::narrow_bits` meets its contract: the sign goes in front of the pattern. Assumes nothing.
use Rattle.std.proofs.Common.{ℕ, ◌+◌, ◌^◌, Bool, cond, sym, ap, ◌∙◌, zero-add, le-leb}
use borrow.Author.Tests.{lt-leb}
use Rattle.ieee.specs.Narrow.{magnitude_of}
use Rattle.ieee.proofs.narrow_bits.Goals as goal

pub returns-then-b-lt9223372036854775808 : goal.returns-then-b-lt9223372036854775808
returns-then-b-lt9223372036854775808 c = c.narrow_magnitude-p.ensures ∙ sym (zero-add _)
    ∙ ap (λ (s : Bool). cond s (2 ^ 31) 0 + magnitude_of c.args.b) (sym (lt-leb _ _ c.if-b-lt9223372036854775808.true))

pub returns : goal.returns
returns c =
    ap (λ (p : ℕ). 2 ^ 31 + p) c.narrow_magnitude-p.ensures
    ∙ ap (λ (s : Bool). cond s (2 ^ 31) 0 + magnitude_of c.args.b) (sym (le-leb _ _ c.if-b-lt9223372036854775808.false))
