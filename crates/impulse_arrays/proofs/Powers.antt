-- Tests of the first powers. Assumes nothing.
use mathlib.Core.Path.{◌≡◌, refl}
use mathlib.Core.Bool.{Bool, ◌&&◌}
use Prim.Native.Nat.{ℕ, zero, suc, ◌<◌}
use native.Mathlib.Omega.{arith}
use Rattle.stage_log.specs.Check.{all_to}

-- tests that agree on the first n are passed alike
pub all_same : (f g : ℕ → Bool) (n : ℕ) → ((k : ℕ) → k < n → f k ≡ g k) → all_to f n ≡ all_to g n
unfolding all_to
all_same f g zero h = refl
all_same f g (suc n) h = let l = all_same f g n (λ k q. h k (omega arith)) in let m = h n (omega arith) in λ i. l i && m i
