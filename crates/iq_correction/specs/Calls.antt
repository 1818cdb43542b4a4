-- Calls after calls. Definitions only.
use Rattle.std.specs.Prelude.{ℕ, List, [], ◌∷◌, ◌++◌, map}
use Rattle.rules.specs.Iq.{Settled, corrected_by}

-- the words of all calls, each as the contract of `process` has it, one call's after the other's
unfoldable pub written_by : Settled → List (List ℕ) → List ℕ
written_by s [] = []
written_by s (xs ∷ calls) = map (corrected_by s) xs ++ written_by s calls
