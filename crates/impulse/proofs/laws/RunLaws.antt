-- Reading and mending a run in the circular array of pending samples. Assumes nothing.
use Rattle.std.specs.Prelude.{◌≡◌, ◌≢◌, List, [], ◌∷◌, length, set, take, drop}
use Rattle.std.proofs.Math.Path.{refl}
use Rattle.std.proofs.Common.{◌∙◌, length-drop, length-append, get_or-set_same, take-suc, get_or-drop}
use Prim.Native.Nat.{ℕ, zero, suc, ◌+◌, ◌%◌, ◌≤◌, ◌<◌}
use Rattle.std.proofs.Math.Decide.{ℕ_discrete}
use Rattle.std.proofs.Math.Nat.{mod-lt}
use native.Mathlib.Omega.{arith}
use Rattle.std.proofs.Math.ListN.{get_or, length-set}
use Rattle.std.proofs.Math.Seq.{get_or-set_other}
use Rattle.rules.specs.Lists.{at}
use Rattle.impulse.specs.Machine.{read_run, mended_word, write_run}
use Rattle.impulse.proofs.laws.CircleLaws.{apart}

pub read_length : (size : ℕ) (l : List ℕ) (a t : ℕ) → length (read_run size l a t) ≡ t
unfolding read_run
read_length size l a zero = refl
read_length size l a (suc t) = let r = read_length size l a t in let s = length-append (read_run size l a t) (get_or l ((a + t) % size) 0 ∷ []) in omega arith

-- where the places hold the input, a run is read as it was received
pub read_run_lem : (size : ℕ) (l xs : List ℕ) (a t : ℕ) → a + t ≤ length xs
    → ((i : ℕ) → i < t → get_or l ((a + i) % size) 0 ≡ at xs (a + i)) → read_run size l a t ≡ take t (drop a xs)
unfolding read_run
read_run_lem size l xs a zero h reads = refl
read_run_lem size l xs a (suc t) h reads =
    let len = length-drop a xs in
    let short : t < length (drop a xs) = omega arith in
    rw (read_run_lem size l xs a t (omega arith) (λ i k. reads i (omega arith)), reads t (omega arith), take-suc (drop a xs) t 0 short, get_or-drop a xs t 0)

module _ (size : ℕ) (l : List ℕ) (left right a n : ℕ) where
  pub write_length : (t : ℕ) → length (write_run size l left right a n t) ≡ length l
  unfolding write_run
  write_length zero = refl
  write_length (suc t) = length-set (write_run size l left right a n t) ((a + t) % size) (mended_word left right t n) ∙ write_length t

  -- a place that is none of the run's
  pub write_other : (t p : ℕ) → ((i : ℕ) → i < t → p ≢ (a + i) % size) → get_or (write_run size l left right a n t) p 0 ≡ get_or l p 0
  unfolding write_run
  write_other zero p differ = refl
  write_other (suc t) p differ =
      get_or-set_other (write_run size l left right a n t) ((a + t) % size) p (mended_word left right t n) 0 (differ t (omega arith))
      ∙ write_other t p (λ i h. differ i (omega arith))

  -- a place of the run's
  pub write_in : (t k : ℕ) → length l ≡ size → t ≤ size → k < t → get_or (write_run size l left right a n t) ((a + k) % size) 0 ≡ mended_word left right k n
  unfolding write_run
  write_in zero k e w h = absurd (omega arith)
  write_in (suc t) k e w h = go (ℕ_discrete k t) (λ x. write_in t k e (omega arith) x)
    where
      go : Dec (k ≡ t) → (k < t → get_or (write_run size l left right a n t) ((a + k) % size) 0 ≡ mended_word left right k n)
          → get_or (set (write_run size l left right a n t) ((a + t) % size) (mended_word left right t n)) ((a + k) % size) 0 ≡ mended_word left right k n
      go (yes q) r =
          let z : 0 < size = omega arith in
          let m = mod-lt (a + t) z in
          let len = write_length t in
          rw q (get_or-set_same (write_run size l left right a n t) ((a + t) % size) (mended_word left right t n) 0 (omega arith))
      go (no q) r =
          get_or-set_other (write_run size l left right a n t) ((a + t) % size) ((a + k) % size) (mended_word left right t n) 0
          (apart size (a + k) (a + t) (omega arith) (omega arith))
          ∙ r (omega arith)
