-- `impulse_window::blended` meets its contract: the places passed are those of the blend. Assumes nothing.
use mathlib.Core.Path.{◌≡◌, refl, sym, ap, ◌∙◌}
use mathlib.Core.Bool.{cond}
use mathlib.Core.List.{List, [], ◌∷◌}
use Prim.Native.Nat.{ℕ, suc, ◌+◌, ◌-◌, ◌<◌}
use native.Mathlib.Omega.{arith}
use lib.Ieee.{Float, nan, lt}
use lib.ListN.{length, get_or, set, take, length-set}
use lib.Seq.{take_all}
use borrow.Author.Rules.{rules}
use Rattle.rules.specs.Impulse.{window_size}
use Rattle.impulse_window.specs.Rising.{least, most, moved, blended}
use Rattle.impulse_window.proofs.Blends.{blended_length, blended_first, blended_at, blended_last, filled}
use Rattle.impulse_window.proofs.blended.Goals as goal

-- the next place
next : (old p : Float) (l out : List Float) (k : ℕ) (v : Float) → k + 2 < window_size → (length l ≡ window_size) × (length out ≡ window_size)
    → take (suc k) out ≡ take (suc k) (blended old p l)
    → v ≡ least (moved old (get_or l (k + 1) nan) (get_or l (k + 2) nan)) (most (moved old (get_or l k nan) (get_or l (k + 1) nan)) p)
    → take (suc (k + 1)) (set out (k + 1) v) ≡ take (suc (k + 1)) (blended old p l)
next old p l out k v h n e f =
    let two : k + 2 ≡ suc (suc k) = omega arith in
    let one : k + 1 ≡ suc k = omega arith in
    let g = blended_length old p l in
    let w = rw (two, one) at f in
    rw one (filled out (blended old p l) (suc k) v nan (omega arith) (omega arith) e (w ∙ sym (blended_at old p l k nan (omega arith))))

-- the last place
whole : (old p : Float) (l out : List Float) (v : Float) → length l ≡ window_size → length out ≡ window_size
    → take (window_size - 1) out ≡ take (window_size - 1) (blended old p l)
    → v ≡ most (moved old (get_or l (window_size - 2) nan) (get_or l (window_size - 1) nan)) p → set out (window_size - 1) v ≡ blended old p l
whole old p l out v n m e f =
    let g = blended_length old p l in
    let s = length-set out (window_size - 1) v in
    sym (take_all window_size (set out (window_size - 1) v) (omega arith))
    ∙ filled out (blended old p l) (window_size - 1) v nan (omega arith) (omega arith) e (f ∙ sym (blended_last old p l (window_size - 2) nan n))
    ∙ take_all window_size (blended old p l) (omega arith)

pub loop-k-init : goal.loop-k-init
loop-k-init c =
    let a = c.args in
    let m = blended a.old a.p a.sorted.now in
    let n = blended_length a.old a.p a.sorted.now in
    let first = c.least.ensures ∙ ap (λ (x : Float). cond (lt x a.p) x a.p) (c.all_moved-left.ensures 0 (omega arith))
    ∙ sym (blended_first a.old a.p a.sorted.now nan (omega arith)) in
    (refl, filled (c.least.result ∷ []) m 0 c.least.result nan (omega arith) (omega arith) refl first)

pub loop-k-preserved : goal.loop-k-preserved
loop-k-preserved c =
    let a = c.args in
    let i = c.loop-k in
    let m = blended a.old a.p a.sorted.now in
    let n = blended_length a.old a.p a.sorted.now in
    let v = c.least-in-loop-k.result in
    let s = length-set i.out (i.k + 1) v in
    let t = i.invariant.0 in
    let lower = c.most.ensures ∙ ap (λ (x : Float). most x a.p) (c.all_moved-left.ensures i.k (omega arith)) in
    let upper : get_or c.all_moved-left.result (i.k + 1) nan ≡ moved a.old (get_or a.sorted.now (i.k + 1) nan) (get_or a.sorted.now (i.k + 2) nan) =
    let two : i.k + 1 + 1 ≡ i.k + 2 = omega arith in c.all_moved-left.ensures (i.k + 1) (omega arith) ∙ ap (λ (n : ℕ). moved a.old (get_or a.sorted.now (i.k + 1) nan) (get_or a.sorted.now n nan)) two in (
      omega arith,
      next a.old a.p a.sorted.now i.out i.k v (omega arith) (omega arith) i.invariant.1 (c.least-in-loop-k.ensures ∙ (λ j. least (upper j) (lower j))),
    )

pub returns : goal.returns
returns c =
    let a = c.args in
    let i = c.loop-k in
    let e : i.k ≡ window_size - 2 = omega arith in
    let v = c.most-2.ensures ∙ ap (λ (x : Float). cond (lt x a.p) a.p x) (c.all_moved-left.ensures (window_size - 2) (omega arith)) in
    whole a.old a.p a.sorted.now i.out c.most-2.result (search rules) i.invariant.0 (rw e at i.invariant.1) v
