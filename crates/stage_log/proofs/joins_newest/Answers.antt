-- `stage_log::joins_newest` meets its contract. Assumes nothing.
use mathlib.Core.Path.{◌≡◌, refl}
use mathlib.Core.Bool.{Bool, true, false}
use Prim.Native.Nat.{ℕ, ◌+◌, ◌-◌, ◌*◌, ◌≤◌, ◌<◌}
use native.Mathlib.Omega.{arith}
use borrow.Author.Tests.{lt-leb, lt-ltb, le-ltb, ne_eqb, eq-eqb, eqb-true, eqb-false}
use lib.Dec.{eqb}
use Rattle.rules.specs.Log.{joins}
use Rattle.rules.specs.Lists.{at}
use Rattle.stage_log.proofs.joins_newest.Goals as goal

-- where a span ends, without the sum
ends_same : (s l e : ℕ) → s ≤ e → eqb (e - s) l ≡ eqb (s + l) e
ends_same s l e h = go (eqb (s + l) e) refl
  where
    go : (b : Bool) → eqb (s + l) e ≡ b → eqb (e - s) l ≡ b
    go true q = let r = eqb-true (s + l) e q in eq-eqb (e - s) l (omega arith)
    go false q = let r = eqb-false (s + l) e q in ne_eqb (e - s) l (λ x. r (omega arith))

ends_later : (s l e : ℕ) → e < s → eqb (s + l) e ≡ false
ends_later s l e h = ne_eqb (s + l) e (λ q. omega arith)

pub returns-then-ring-eq0 : goal.returns-then-ring-eq0
unfolding joins
returns-then-ring-eq0 c = simp (le-ltb 0 c.args.ring.count (omega arith))

pub returns-else-s-start : goal.returns-else-s-start
unfolding joins
returns-else-s-start c =
    let a = c.args in
    let ws = a.words.now in
    let p = c.newest_place-place.result in
    rw (← c.newest_place-place.ensures.0)
    (simp (
      lt-leb _ _ c.if-s-start.false,
      lt-ltb 0 a.ring.count (omega (arith, c.if-ring-eq0.false)),
      ends_later (at ws (p * 2)) (at ws (p * 2 + 1)) a.start c.if-s-start.false,
    ))

pub returns-then-s-start : goal.returns-then-s-start
unfolding joins
returns-then-s-start c =
    let a = c.args in
    rw (← c.newest_place-place.ensures.0, ends_same _ _ a.start c.if-s-start.true)
    (simp (lt-ltb 0 a.ring.count (omega (arith, c.if-ring-eq0.false))))
