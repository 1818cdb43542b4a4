-- `impulse_window::grow` meets its contract. Assumes nothing.
use mathlib.Core.Path.{ap, ◌∙◌}
use Prim.Native.Nat.{ℕ}
use native.Mathlib.Omega.{arith}
use lib.Ieee.{lt}
use Rattle.impulse_window.specs.Ordering.{without, put_in}
use Rattle.impulse_window.proofs.Places.{rank_take, growing}
use borrow.Author.Rules.{rules}
use Rattle.impulse_window.proofs.grow.Goals as goal

pub put-requires : goal.put-requires
put-requires c = let a = c.args in
    (search rules, omega (arith, c.rank-at.ensures, rank_take lt a.p a.i (without a.sorted.now a.i)))

pub returns : goal.returns
returns c =
    let a = c.args in
    c.put.ensures
    ∙ ap (λ (k : ℕ). put_in (without a.sorted.now a.i) k a.p) c.rank-at.ensures
    ∙ growing lt a.sorted.now a.i a.p (omega arith)
