-- A slice that a loop has come to place k of: what is left, a word put at k, and the end. Assumes nothing.
use Rattle.std.specs.Prelude.{◌≡◌, List, [], ◌∷◌, ◌++◌, ℕ, ◌+◌, ◌<◌, ◌≤◌, length, take, drop, get_or, set}
use Rattle.std.proofs.Common.{sym, ap, ◌∙◌, append-nil, add-one, arith, drop-cons, take_all, take-suc-set, drop-set-lt}
use Rattle.std.proofs.Math.Seq.{append_snoc}

pub left : (xs : List ℕ) (k : ℕ) → k < length xs → drop k xs ≡ get_or xs k 0 ∷ drop (k + 1) xs
left xs k h = drop-cons xs k 0 h ∙ ap (λ (n : ℕ). get_or xs k 0 ∷ drop n xs) (sym (add-one k))

-- a word put at k is the first of what follows, and changes nothing behind it
pub put : (xs rest : List ℕ) (k w : ℕ) → k < length xs → take (k + 1) (set xs k w) ++ rest ≡ take k xs ++ w ∷ rest
put xs rest k w h =
    ap (λ (n : ℕ). take n (set xs k w) ++ rest) (add-one k) ∙ ap (λ (ys : List ℕ). ys ++ rest) (take-suc-set xs k w h) ∙ append_snoc (take k xs) w rest

pub behind : (xs : List ℕ) (k w : ℕ) → drop (k + 1) (set xs k w) ≡ drop (k + 1) xs
behind xs k w = drop-set-lt (k + 1) xs k w (omega arith)

-- at the end all is written
pub whole : (xs : List ℕ) (k : ℕ) → length xs ≤ k → take k xs ++ [] ≡ xs
whole xs k h = append-nil (take k xs) ∙ take_all k xs h
