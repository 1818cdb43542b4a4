-- Running a machine over joined inputs is running it over one and then the other. Assumes nothing.
use Rattle.std.specs.Prelude.{◌≡◌, refl, List, [], ◌∷◌, ◌++◌}
use Rattle.std.proofs.Common.{sym, append_assoc}
use Rattle.impulse.specs.Running.{after, outs}

pub after_append : {S X : Type 0} (step : S → X → S) (s : S) (xs ys : List X) → after step s (xs ++ ys) ≡ after step (after step s xs) ys
after_append step s [] ys = refl
after_append step s (x ∷ xs) ys = after_append step (step s x) xs ys

pub outs_append : {S X Y : Type 0} (step : S → X → S) (emit : S → X → List Y) (s : S) (xs ys : List X)
    → outs step emit s (xs ++ ys) ≡ outs step emit s xs ++ outs step emit (after step s xs) ys
outs_append step emit s [] ys = refl
outs_append step emit s (x ∷ xs) ys =
    rw (outs_append step emit (step s x) xs ys) (sym (append_assoc (emit s x) (outs step emit (step s x) xs) (outs step emit (after step (step s x) xs) ys)))
