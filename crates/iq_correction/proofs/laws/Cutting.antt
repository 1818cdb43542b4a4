-- The stage theorem: however the samples are cut into calls, what the stage wrote is the rules' map of all of them. Assumes nothing.
use Rattle.std.specs.Prelude.{◌≡◌, ℕ, List, [], ◌∷◌, ◌++◌, map, refl}
use Rattle.std.proofs.Common.{sym, ap, ◌∙◌}
use mathlib.Core.List.{flatten}
use Rattle.rules.specs.Iq.{Settled, corrected_by}
use Rattle.iq_correction.specs.Calls.{written_by}

pub map-append : (f : ℕ → ℕ) (xs ys : List ℕ) → map f (xs ++ ys) ≡ map f xs ++ map f ys
map-append f [] ys = refl
map-append f (x ∷ xs) ys = ap (λ (r : List ℕ). f x ∷ r) (map-append f xs ys)

-- THE STAGE THEOREM
pub any_cutting : (s : Settled) (calls : List (List ℕ)) → written_by s calls ≡ map (corrected_by s) (flatten calls)
unfolding written_by flatten
any_cutting s [] = refl
any_cutting s (xs ∷ calls) = ap (λ (r : List ℕ). map (corrected_by s) xs ++ r) (any_cutting s calls) ∙ sym (map-append (corrected_by s) xs (flatten calls))
