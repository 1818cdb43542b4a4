-- `impulse_window::exchange` meets its contract. Assumes nothing.
use mathlib.Core.Path.{ap, ◌∙◌}
use Prim.Native.Nat.{ℕ, ◌-◌}
use native.Mathlib.Omega.{arith}
use lib.Ieee.{lt}
use Rattle.rules.specs.Impulse.{window_size}
use Rattle.impulse_window.specs.Ordering.{without, put_in}
use Rattle.impulse_window.proofs.Places.{rank_take, replacing}
use borrow.Author.Rules.{rules}
use Rattle.impulse_window.proofs.exchange.Goals as goal

pub rank-at-requires : goal.rank-at-requires
rank-at-requires c = let a = c.args in
    (search rules, omega (arith, c.rank-gap.ensures, rank_take lt a.old (window_size - 1) (without a.sorted.now (window_size - 1))))

pub put-requires : goal.put-requires
put-requires c =
    let a = c.args in
    let g = c.rank-gap in (
      omega (arith, g.ensures, rank_take lt a.old (window_size - 1) (without a.sorted.now (window_size - 1))),
      omega (arith, c.rank-at.ensures, rank_take lt a.p (window_size - 1) (without a.sorted.now g.result)),
    )

pub returns : goal.returns
returns c =
    let a = c.args in
    let g = c.rank-gap in
    c.put.ensures
    ∙ ap (λ (k : ℕ). put_in (without a.sorted.now g.result) k a.p) c.rank-at.ensures
    ∙ replacing lt a.sorted.now (window_size - 1) g.result a.old a.p (search rules) g.ensures
