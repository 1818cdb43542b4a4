-- A place that may be missing. Definitions only.
use Rattle.std.specs.Prelude.{cond, ℕ, ltb, Option, Some, None}

-- the place k in a list of n: past its end there is none
unfoldable pub found : ℕ → ℕ → Option ℕ
found n k = cond (ltb k n) (Some k) None
