-- `iq_median::Search::stay` keeps one or two of the words equal to p. Assumes nothing.
use mathlib.Core.Path.{◌≡◌, refl, sym, subst}
use Prim.Native.Nat.{ℕ, ◌+◌, ◌-◌}
use native.Mathlib.Omega.{arith}
use lib.ListN.{set, length-set}
use Rattle.iq_median.specs.declared.Search.{Search}
use Rattle.iq_median.proofs.Selecting.{equal_two, equal_one}
use Rattle.iq_median.specs.Select.{Narrowed}
use Rattle.iq_median.proofs.Search.stay.Goals as goal
use Rattle.iq_median.proofs.Search.stay.Goals.{then-self-passed, else-self-passed}

pub bounds-part-1 : goal.bounds-part-1
bounds-part-1 c = simp length-set (omega (arith, c.requires.turning.many, c.requires.turning.window.most))

-- two places are kept, or one
pub returns : goal.returns
returns c =
    let a = c.args in
    let t : ℕ → Search = λ n. record { count = n; place = 0; low = a.self.now.low; high = a.self.now.high; left = a.self.now.left - 1 } in
    let left : a.self.now.left - 1 + 1 ≡ a.self.now.left = omega (arith, c.requires.turning.turns) in
    let m = set (set a.part.now 0 a.p) 1 a.p in
    elim c.if-self-passed.branch [
      | then-self-passed w ↦
          subst (λ (n : ℕ). Narrowed a.part.now a.self.now m (t n)) (sym w.self-is)
          (equal_two a.part.now a.self.now (t 2) a.p c.requires.turning left a.passed c.requires.counted c.requires.behind refl refl w.if-self-passed.true)
      | else-self-passed w ↦
          subst (λ (n : ℕ). Narrowed a.part.now a.self.now m (t n)) (sym w.self-is)
          (equal_one a.part.now a.self.now (t 1) a.p c.requires.turning left a.passed c.requires.counted c.requires.behind refl refl c.requires.before)
    ]
