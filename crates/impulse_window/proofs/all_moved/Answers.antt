-- `impulse_window::all_moved`: those before place k are moved. Assumes nothing.
use Rattle.std.proofs.Common.{◌≡◌, ℕ, not-suc-le-zero, ◌<◌, ◌+◌, ◌∙◌, arith, refl, get_or, set, length, length-set, get_or-set_same, get_or-set_other}
use Rattle.std.proofs.Math.Decide.{ℕ_discrete}
use lib.Ieee.{Float, nan}
use Rattle.impulse_window.specs.Rising.{moved}
use Rattle.impulse_window.proofs.all_moved.Goals as goal
use mathlib.Core.List.{List}

-- one place more
next : (f : ℕ → Float) (out : List Float) (k : ℕ) (v : Float) → k < length out → ((j : ℕ) → j < k → get_or out j nan ≡ f j) → v ≡ f k
    → (j : ℕ) → j < k + 1 → get_or (set out k v) j nan ≡ f j
next f out k v h before here j l = go (ℕ_discrete j k)
  where
    go : Dec (j ≡ k) → get_or (set out k v) j nan ≡ f j
    go (yes e) = rw e (get_or-set_same out k v nan h ∙ here)
    go (no n) = get_or-set_other out k j v nan n ∙ before j (omega arith)

pub loop-k-init : goal.loop-k-init
loop-k-init c = (refl, λ j h. absurd (not-suc-le-zero h))

pub returns : goal.returns
returns c = λ k h. c.loop-k.invariant.1 k (omega arith)

pub loop-k-preserved : goal.loop-k-preserved
loop-k-preserved c =
    let a = c.args in
    let i = c.loop-k in
    let n = i.invariant.0 in (
      length-set i.out i.k _ ∙ n,
      next (λ j. moved a.old (get_or a.sorted.now j nan) (get_or a.sorted.now (j + 1) nan)) i.out i.k _ (omega arith) i.invariant.1
          c.moved.ensures,
    )
