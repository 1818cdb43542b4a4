-- `impulse_window::rank` meets its contract: the powers passed are all below p. Assumes nothing.
use mathlib.Core.Path.{◌≡◌, sym, ap, ◌∙◌, subst}
use mathlib.Core.List.{List}
use Prim.Native.Nat.{ℕ, ◌-◌, ◌<◌}
use native.Mathlib.Omega.{arith}
use native.Mathlib.Numerals.{add-one}
use lib.Ieee.{Float, nan, lt}
use lib.ListN.{length, take}
use Rattle.rules.specs.Impulse.{window_size}
use Rattle.impulse_window.specs.Ordering.{rank, without}
use Rattle.impulse_window.proofs.Places.{without_length, rank_more, rank_stops, rank_none}
use Rattle.impulse_window.proofs.rank.Goals as goal

-- the array with the gap left out has one place less
rest : (l : List Float) (gap : ℕ) → gap < window_size → length l ≡ window_size → length (without l gap) ≡ window_size - 1
rest l gap h e = let n = without_length l gap (omega arith) in omega arith

pub loop-k-init : goal.loop-k-init
loop-k-init c = rank_none lt c.args.p

pub returns-then-not-beside-p : goal.returns-then-not-beside-p
returns-then-not-beside-p c =
    let a = c.args in
    let i = c.loop-k in
    let n = rest a.sorted.now a.gap (omega arith) (omega arith) in
    let t = sym (ap (λ (x : Float). lt x a.p) c.beside.ensures) ∙ c.if-not-beside-p.true in
    sym (rank_stops lt a.p (without a.sorted.now a.gap) i.k a.n nan (omega arith) (omega arith) i.invariant t)

pub loop-k-preserved : goal.loop-k-preserved
loop-k-preserved c =
    let a = c.args in
    let i = c.loop-k in
    let n = rest a.sorted.now a.gap (omega arith) (omega arith) in
    let t = sym (ap (λ (x : Float). lt x a.p) c.beside.ensures) ∙ c.if-not-beside-p.false in
    rw add-one (rank_more lt a.p (without a.sorted.now a.gap) i.k nan (omega arith) i.invariant t)

pub returns : goal.returns
returns c =
    let a = c.args in
    let i = c.loop-k in
    let e : i.k ≡ a.n = omega arith in
    sym (subst (λ (k : ℕ). rank lt a.p (take k (without a.sorted.now a.gap)) ≡ k) e i.invariant)
