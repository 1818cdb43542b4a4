-- `impulse::runs::original` meets its contract. Assumes nothing.
use mathlib.Core.Path.{◌≡◌, refl, sym, ◌∙◌}
use mathlib.Core.List.{List, [], ◌∷◌, ◌++◌}
use Prim.Native.Nat.{ℕ, zero, suc, ◌+◌, ◌%◌, ◌<◌}
use native.Mathlib.Omega.{arith}
use native.Mathlib.Decide.{ℕ_discrete}
use lib.ListN.{length, get_or}
use lib.ListN.{length-append, get_or-append, get_or-eq_default}
use lib.Seq.{get_or_at}
use Rattle.rules.specs.Impulse.{lookahead_size}
use Rattle.impulse.specs.Machine.{read_run}
use Rattle.impulse.proofs.runs.original.Goals as goal

-- the run's list has its samples in order
read_length : (size : ℕ) (l : List ℕ) (a n : ℕ) → length (read_run size l a n) ≡ n
unfolding read_run
read_length size l a zero = refl
read_length size l a (suc n) = let r = read_length size l a n in let s = length-append (read_run size l a n) (get_or l ((a + n) % size) 0 ∷ []) in omega arith

read_at : (size : ℕ) (l : List ℕ) (a n t : ℕ) → t < n → get_or (read_run size l a n) t 0 ≡ get_or l ((a + t) % size) 0
unfolding read_run
read_at size l a zero t h = absurd (omega arith)
read_at size l a (suc n) t h = go (ℕ_discrete t n) (read_at size l a n t) (read_length size l a n)
  where
    go : Dec (t ≡ n) → (t < n → get_or (read_run size l a n) t 0 ≡ get_or l ((a + t) % size) 0) → length (read_run size l a n) ≡ n
        → get_or (read_run size l a n ++ (get_or l ((a + n) % size) 0 ∷ [])) t 0 ≡ get_or l ((a + t) % size) 0
    go (yes e) r len = rw e (get_or_at (read_run size l a n) (get_or l ((a + n) % size) 0) [] 0 n len)
    go (no e) r len = get_or-append (read_run size l a n) (get_or l ((a + n) % size) 0 ∷ []) 0 t (omega arith) ∙ r (omega arith)

pub returns-then-t-n : goal.returns-then-t-n
returns-then-t-n c = let a = c.args in rw c.place.ensures (sym (read_at lookahead_size a.pending.now a.start a.n a.t c.if-t-n.true))

pub returns : goal.returns
returns c = let a = c.args in let n = read_length lookahead_size a.pending.now a.start a.n in
    sym (get_or-eq_default (read_run lookahead_size a.pending.now a.start a.n) 0 {n = a.t} (omega arith))
