-- `impulse_arrays::powers_fit` meets its contract: where all powers fit the first n do. Assumes nothing.
use mathlib.Core.Path.{◌≡◌, sym, ◌∙◌}
use mathlib.Core.Bool.{true}
use mathlib.Core.List.{List}
use Prim.Native.Nat.{ℕ, ◌≤◌}
use native.Mathlib.Omega.{arith}
use lib.ListN.{length, get_or, take}
use lib.Seq.{length-take-le}
use lib.Ieee.{Float}
use Rattle.std.proofs.lemmas.List.{get_or-take}
use Rattle.rules.specs.Constants.{zero_f}
use Rattle.stage_log.proofs.laws.CheckLaws.{all_at, all_of}
use Rattle.impulse_arrays.specs.Fits.{power_fits, powers_fit}
use Rattle.impulse_arrays.proofs.Powers.{all_same}
use Rattle.impulse_arrays.proofs.powers_fit.Goals as goal

fewer : (n : ℕ) (xs : List Float) → n ≤ length xs → powers_fit (length xs) xs ≡ true → powers_fit n xs ≡ true
fewer n xs h e = all_of (λ k. power_fits (get_or xs k zero_f)) n (λ k l. all_at (λ k. power_fits (get_or xs k zero_f)) (length xs) k e (omega arith))

first : (n : ℕ) (xs : List Float) → n ≤ length xs → powers_fit (length (take n xs)) (take n xs) ≡ powers_fit n xs
first n xs h =
    rw (length-take-le n xs h)
    (all_same (λ k. power_fits (get_or (take n xs) k zero_f)) (λ k. power_fits (get_or xs k zero_f)) n (λ k l. rw (get_or-take n xs k zero_f l)))

pub returns-then-all_fit : goal.returns-then-all_fit
returns-then-all_fit c =
    sym (fewer c.args.n c.args.window.now (omega arith) (sym c.all_fit.ensures ∙ c.if-all_fit.true))

pub returns : goal.returns
returns c = c.all_fit-2.ensures ∙ first c.args.n c.args.window.now (omega arith)
