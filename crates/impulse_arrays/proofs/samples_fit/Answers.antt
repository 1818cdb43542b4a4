-- `impulse_arrays::samples_fit` is `samples_fit`: the first of all that is beyond the limit is none of the first n. Assumes nothing.
use mathlib.Core.Path.{◌≡◌, refl, sym, subst, ◌∙◌}
use mathlib.Core.Bool.{Bool, true, false}
use mathlib.Core.List.{List}
use Prim.Native.Nat.{ℕ, ◌≤◌}
use native.Mathlib.Omega.{arith}
use lib.Dec.{ltb, leb}
use lib.ListN.{length, get_or}
use borrow.Author.Tests.{ltb-true, ltb-false, le-leb, lt-leb}
use Rattle.rules.specs.Refusals.{within_limit}
use Rattle.amplitude_limit.proofs.laws.LimitLaws.{FirstBeyond, first_place}
use Rattle.stage_log.proofs.laws.CheckLaws.{all_of, all_not}
use Rattle.impulse_arrays.specs.Fits.{samples_fit}
use Rattle.impulse_arrays.proofs.samples_fit.Goals as goal

none_beyond : (xs : List ℕ) (n k : ℕ) → n ≤ length xs → FirstBeyond xs k → leb n k ≡ samples_fit n xs
none_beyond xs n k h f = go (ltb k n) refl
  where
    go : (b : Bool) → ltb k n ≡ b → leb n k ≡ samples_fit n xs
    go true t = let l = ltb-true k n t in lt-leb n k l ∙ sym (all_not (λ i. within_limit (get_or xs i 0)) n k l (f.here (omega arith)))
    go false t = let l = ltb-false k n t in le-leb n k l ∙ sym (all_of (λ i. within_limit (get_or xs i 0)) n (λ i j. f.before i (omega arith)))

pub returns : goal.returns
returns c =
    let xs = c.args.pending.now in
    none_beyond xs c.args.n c.first_beyond.result (omega arith)
    (subst (FirstBeyond xs) (sym c.first_beyond.ensures) (first_place xs))
