-- `stage_log::end_fits` meets its contract. Assumes nothing.
use mathlib.Core.Path.{◌≡◌, refl}
use mathlib.Core.Bool.{Bool, true, false}
use Prim.Native.Nat.{ℕ, ◌+◌, ◌-◌, ◌*◌, ◌^◌, ◌≤◌, ◌<◌}
use native.Mathlib.Omega.{arith}
use borrow.Author.Tests.{lt-ltb, le-ltb, le-leb, lt-leb, leb-true, leb-false}
use lib.Dec.{leb}
use Rattle.rules.specs.Lists.{at}
use Rattle.stage_log.specs.Check.{end_fits}
use Rattle.stage_log.proofs.end_fits.Goals as goal

-- a sum that is not above b, tested without it
sum_same : (s l b : ℕ) → s ≤ b → leb l (b - s) ≡ leb (s + l) b
sum_same s l b h = go (leb (s + l) b) refl
  where
    go : (t : Bool) → leb (s + l) b ≡ t → leb l (b - s) ≡ t
    go true q = let r = leb-true (s + l) b q in le-leb l (b - s) (omega arith)
    go false q = let r = leb-false (s + l) b q in lt-leb l (b - s) (omega arith)

sum_above : (s l b : ℕ) → b < s → leb (s + l) b ≡ false
sum_above s l b h = lt-leb (s + l) b (omega arith)

pub returns-then-ring-eq0 : goal.returns-then-ring-eq0
unfolding end_fits
returns-then-ring-eq0 c = simp (le-ltb 0 c.args.ring.count (omega arith))

pub returns-else-s-le-SUM_LIMIT : goal.returns-else-s-le-SUM_LIMIT
unfolding end_fits
returns-else-s-le-SUM_LIMIT c =
    let a = c.args in
    let ws = a.words.now in
    let p = c.newest_place-place.result in
    rw (← c.newest_place-place.ensures.0)
    (simp (
      lt-leb _ _ c.if-s-le-SUM_LIMIT.false,
      lt-ltb 0 a.ring.count (omega (arith, c.if-ring-eq0.false)),
      sum_above (at ws (p * 2)) (at ws (p * 2 + 1)) (2 ^ 49) c.if-s-le-SUM_LIMIT.false,
    ))

pub returns-then-s-le-SUM_LIMIT : goal.returns-then-s-le-SUM_LIMIT
unfolding end_fits
returns-then-s-le-SUM_LIMIT c =
    let a = c.args in
    rw (← c.newest_place-place.ensures.0, sum_same _ _ (2 ^ 49) c.if-s-le-SUM_LIMIT.true)
    (simp (lt-ltb 0 a.ring.count (omega (arith, c.if-ring-eq0.false))))
