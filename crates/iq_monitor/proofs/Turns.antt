-- The mirror's place. Assumes nothing.
use mathlib.Core.Path.{◌≡◌}
use Prim.Native.Nat.{ℕ, ◌-◌, ◌%◌, ◌<◌}
use native.Mathlib.Nat.{mod-lt}
use native.Mathlib.Omega.{arith}
use Rattle.rules.specs.Monitor.{mirror_of}

pub mirror_lt : (m n k : ℕ) → m ≡ mirror_of n k → k < n → m < n
mirror_lt m n k e h = let l : (n - k) % n < n = mod-lt (n - k) (omega arith) in omega arith
