-- `impulse_window::beside` meets its contract. Assumes nothing.
use mathlib.Core.Path.{sym, ap, ◌∙◌}
use Prim.Native.Nat.{ℕ}
use native.Mathlib.Numerals.{add-one}
use lib.Ieee.{nan}
use lib.ListN.{get_or}
use borrow.Author.Rules.{rules}
use Rattle.impulse_window.proofs.Places.{without_before, without_behind}
use Rattle.impulse_window.proofs.beside.Goals as goal

pub returns-then-k-gap : goal.returns-then-k-gap
returns-then-k-gap c = let a = c.args in sym (without_before a.sorted.now a.gap a.k nan (search rules))

pub returns-else-k-gap : goal.returns-else-k-gap
returns-else-k-gap c = let a = c.args in
    ap (λ (i : ℕ). get_or a.sorted.now i nan) (add-one a.k) ∙ sym (without_behind a.sorted.now a.gap a.k nan (search rules))
