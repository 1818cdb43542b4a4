-- `impulse_arrays::sorts_to` is `sorted_fits`: the powers are copied to other words and sorted there. Assumes nothing.
use mathlib.Core.Path.{◌≡◌, ap, ◌∙◌}
use mathlib.Core.List.{List}
use Prim.Native.Nat.{ℕ, ◌≤◌}
use native.Mathlib.Omega.{arith}
use lib.Dec.{eqb}
use lib.ListN.{length, get_or, take}
use lib.Seq.{length-take-le}
use lib.Ieee.{Float, binary64, to_bits, lt}
use Rattle.std.proofs.lemmas.List.{get_or-take}
use Rattle.rules.specs.Constants.{zero_f}
use Rattle.rules.specs.Sort.{sort}
use Rattle.stage_log.specs.Check.{all_to}
use Rattle.impulse_arrays.specs.Fits.{sorted_fits}
use Rattle.impulse_arrays.proofs.Powers.{all_same}
use Rattle.impulse_arrays.proofs.sorts_to.Goals as goal

first : (n : ℕ) (window sorted ys : List Float) → n ≤ length sorted → ys ≡ sort lt (take n window)
    → all_to (λ k. eqb (to_bits binary64 (get_or (take n sorted) k zero_f)) (to_bits binary64 (get_or ys k zero_f))) (length (take n sorted))
    ≡ sorted_fits n window sorted
unfolding sorted_fits
first n window sorted ys h e =
    rw (e, length-take-le n sorted h)
    (all_same
    (λ k. eqb (to_bits binary64 (get_or (take n sorted) k zero_f)) (to_bits binary64 (get_or (sort lt (take n window)) k zero_f)))
    (λ k. eqb (to_bits binary64 (get_or sorted k zero_f)) (to_bits binary64 (get_or (sort lt (take n window)) k zero_f)))
    n (λ k l. rw (get_or-take n sorted k zero_f l)))

pub returns : goal.returns
returns c =
    let a = c.args in
    c.same_powers.ensures ∙ first a.n a.window.now a.sorted.now _ (omega arith) (c.sort_words.ensures ∙ ap (sort lt) c.copy_powers.ensures)
