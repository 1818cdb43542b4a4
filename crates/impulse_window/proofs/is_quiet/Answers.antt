-- `impulse_window::is_quiet` meets its contract: what rounding keeps. Assumes nothing.
use mathlib.Core.Path.{◌≡◌, sym, ◌∙◌, subst}
use mathlib.Core.Bool.{false}
use Prim.Native.Nat.{ℕ, suc, ◌-◌}
use native.Mathlib.Omega.{arith}
use lib.ListN.{take}
use Rattle.rules.specs.Impulse.{stands_out}
use Rattle.impulse_window.specs.Ordered.{mean}
use Rattle.impulse_window.proofs.Quiet.{quiet}
use Rattle.impulse_window.proofs.is_quiet.Goals as goal

pub returns : goal.returns
returns c =
    let a = c.args in
    let k : suc (a.k - 1) ≡ a.k = omega arith in
    λ e. subst (λ (n : ℕ). stands_out (mean (take n a.sorted.now)) a.p ≡ false) k
    (quiet a.sorted.now (a.k - 1) a.p (c.requires.rising c.if-not-rising.false)
    (omega arith) (omega arith)
    c.is_near.ensures.values (sym c.is_near.ensures.result ∙ e))
