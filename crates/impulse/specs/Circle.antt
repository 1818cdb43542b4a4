-- A circular array by number: what is numbered k stands at place k % size. Definitions only.
use Rattle.std.specs.Prelude.{List, ℕ, zero, suc, ◌%◌, set, replicate}

-- the array after g 0, .., g (n - 1)
module _ {A : Type 0} (d : A) (size : ℕ) where
  unfoldable pub circle : ℕ → (ℕ → A) → List A
  circle zero g = replicate size d
  circle (suc n) g = set (circle n g) (n % size) (g n)
