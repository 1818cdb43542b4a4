-- `impulse_arrays::arrays_fit` is `arrays_fit`. Assumes nothing.
use mathlib.Core.Path.{◌≡◌, refl, sym, ap, ◌∙◌}
use mathlib.Core.Bool.{Bool, true, false}
use Prim.Native.Nat.{ℕ}
use Rattle.impulse_arrays.specs.Fits.{window_held, powers_fit, samples_fit, arrays_fit}
use Rattle.impulse_arrays.proofs.arrays_fit.Goals as goal
use Rattle.impulse_arrays.proofs.arrays_fit.Goals.{After-powers_fit}

-- the powers by the answer t
powers : (c : After-powers_fit) (t : Bool) → c.powers_fit.result ≡ t
    → let a = c.args in powers_fit (window_held a.received) a.window.now ≡ t
powers c t e =
    let a = c.args in
    sym (c.powers_fit.ensures ∙ ap (λ (n : ℕ). powers_fit n a.window.now) c.holds.ensures) ∙ e

pub returns-then-not-powers_fit : goal.returns-then-not-powers_fit
unfolding arrays_fit
returns-then-not-powers_fit c = rw (powers (goal.at.returns-then-not-powers_fit c).After-powers_fit false c.if-not-powers_fit.true) refl

pub returns : goal.returns
unfolding arrays_fit
returns c =
    let xs = c.args.pending.now in
    rw (powers (goal.at.returns c).After-powers_fit true c.if-not-powers_fit.false) (c.samples_fit.ensures ∙ ap (λ (n : ℕ). samples_fit n xs) c.holds-2.ensures)
