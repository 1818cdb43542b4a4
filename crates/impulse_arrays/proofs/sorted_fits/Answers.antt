-- `impulse_arrays::sorted_fits` is `sorted_fits`: where the sorted list is the window sorted, every power has the same bits. Assumes nothing.
use mathlib.Core.Path.{◌≡◌, sym, ap}
use mathlib.Core.Bool.{true}
use mathlib.Core.List.{List}
use Prim.Native.Nat.{ℕ}
use native.Mathlib.Omega.{arith}
use lib.Dec.{eqb}
use lib.ListN.{length, get_or, take}
use lib.Seq.{take_all}
use lib.Ieee.{Float, binary64, lt, to_bits}
use borrow.Author.Tests.{eq-eqb}
use Rattle.rules.specs.Constants.{zero_f}
use Rattle.rules.specs.Sort.{sort}
use Rattle.stage_log.proofs.laws.CheckLaws.{all_of}
use Rattle.impulse_arrays.specs.Fits.{sorted_fits}
use Rattle.impulse_arrays.proofs.sorted_fits.Goals as goal

arranged : (n : ℕ) (w s : List Float) → length w ≡ n → sort lt w ≡ s → true ≡ sorted_fits n w s
unfolding sorted_fits
arranged n w s h a =
    let same : sort lt (take n w) ≡ s = rw (take_all n w (omega arith)) a in
    sym (all_of (λ k. eqb (to_bits binary64 (get_or s k zero_f)) (to_bits binary64 (get_or (sort lt (take n w)) k zero_f))) n
    (λ k q. eq-eqb (to_bits binary64 (get_or s k zero_f)) (to_bits binary64 (get_or (sort lt (take n w)) k zero_f))
    (ap (λ (l : List Float). to_bits binary64 (get_or l k zero_f)) (sym same))))

pub returns-then-is_arranged : goal.returns-then-is_arranged
returns-then-is_arranged c =
    arranged c.args.n c.args.window.now c.args.sorted.now (omega arith) (c.is_arranged.ensures c.if-is_arranged.true)
