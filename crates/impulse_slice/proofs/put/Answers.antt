-- `impulse_slice::put` meets its contract. Assumes nothing.
use mathlib.Core.Path.{◌≡◌, sym, ap, ◌∙◌}
use mathlib.Core.List.{List, [], ◌∷◌, ◌++◌}
use mathlib.Core.List.{append-nil}
use Prim.Native.Nat.{ℕ, ◌+◌}
use native.Mathlib.Omega.{arith}
use lib.ListN.{take, drop, take-append-drop}
use lib.Seq.{sets-eq}
use borrow.Author.Rules.{rules}
use Rattle.impulse_slice.specs.Noted.{placed}
use Rattle.impulse_slice.proofs.put.Goals as goal

none : (l : List ℕ) (i : ℕ) → l ≡ placed l i []
none l i =
    let z : i + 0 ≡ i = omega arith in
    sym (rw z (ap (λ (t : List ℕ). t ++ drop i l) (append-nil (take i l)) ∙ take-append-drop i l))

pub returns-in_default : goal.returns-in_default
returns-in_default c = let e = c.in_default.is in let a = c.args in
    record {
      result = simp e (omega arith);
      words = simp e (none a.samples.now a.out);
    }

pub returns : goal.returns
returns c = let e = c.in-Some.is in let a = c.args in
    record {
      result = simp e;
      words = simp e (sets-eq (c.in-Some.x ∷ []) a.samples.now a.out (search rules));
    }
