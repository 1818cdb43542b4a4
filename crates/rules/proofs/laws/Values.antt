-- What `value` means: mended in a run that is mended, else raw. Assumes nothing.
use Rattle.std.specs.Prelude.{◌≡◌, Bool, ◌&&◌, List, ltb}
use Rattle.std.proofs.Math.Path.{refl, ap}
use Rattle.std.proofs.Common.{sym, ◌∙◌, ltb-true, lt-ltb, le-leb}
use Rattle.std.proofs.Math.Bool.{true, false, cond}
use Rattle.std.proofs.lemmas.Bool.{false≢true}
use Prim.Native.Nat.{ℕ, zero, suc, ◌+◌, ◌-◌, ◌≤◌, ◌<◌}
use Rattle.std.proofs.Math.Decide.{dec_lt, ℕ_discrete}
use native.Mathlib.Omega.{arith}
use Rattle.rules.specs.Lists.{at}
use Rattle.rules.specs.Impulse.{Setting, start, mends, mended_at, end_from, mended_or_raw, covers, value}
use Rattle.rules.proofs.laws.TestLaws.{both}
use Rattle.rules.proofs.laws.Runs.{start_on, run_flagged, hit_says, value_hit, value_miss, value_missed}

-- ---- where a run ends

module _ (F : ℕ → Bool) where
  end_after : (t k : ℕ) → k ≤ end_from F t k
  unfolding end_from
  end_after zero k = omega arith
  end_after (suc t) k = go (F k) (end_after t (suc k))
    where
      go : (b : Bool) → suc k ≤ end_from F t (suc k) → k ≤ cond b (end_from F t (suc k)) k
      go true h = omega arith
      go false h = omega arith

  end_some : (t k : ℕ) → F k ≡ true → 0 < t → k < end_from F t k
  unfolding end_from
  end_some zero k e h = absurd (omega arith)
  end_some (suc t) k e h = rw e (end_after t (suc k))

  -- up to there all are flagged
  end_flagged : (t k i : ℕ) → k ≤ i → i < end_from F t k → F i ≡ true
  unfolding end_from
  end_flagged zero k i a h = absurd (omega arith)
  end_flagged (suc t) k i a h = go (F k) refl (ℕ_discrete k i) h (end_flagged t (suc k) i)
    where
      go : (b : Bool) → F k ≡ b → Dec (k ≡ i) → i < cond b (end_from F t (suc k)) k → (suc k ≤ i → i < end_from F t (suc k) → F i ≡ true) → F i ≡ true
      go true e (yes q) h r = ap F (sym q) ∙ e
      go true e (no q) h r = r (omega arith) h
      go false e d h r = absurd (omega arith)

  -- it is the first that is not
  end_is : (t k j : ℕ) → k ≤ j → j < k + t → ((i : ℕ) → k ≤ i → i < j → F i ≡ true) → F j ≡ false → end_from F t k ≡ j
  unfolding end_from
  end_is zero k j a h on off = absurd (omega arith)
  end_is (suc t) k j a h on off = go (ℕ_discrete k j) (λ b. end_is t (suc k) j b (omega arith) (λ i c. on i (omega arith)) off)
    where
      go : Dec (k ≡ j) → (suc k ≤ j → end_from F t (suc k) ≡ j) → cond (F k) (end_from F t (suc k)) k ≡ j
      go (yes q) r = rw (ap F q ∙ off) q
      go (no q) r = rw (on k (omega arith) (omega arith)) (r (omega arith))

  -- flagged from k up to j: they stand in the run right before j
  start_le : (j k : ℕ) → k ≤ j → ((i : ℕ) → k ≤ i → i < j → F i ≡ true) → start F j ≤ k
  start_le zero k h on = omega arith
  start_le (suc j) k h on = go (dec_lt k (suc j)) (λ b. start_le j k b (λ i c d. on i c (omega arith)))
    where
      go : Dec (k < suc j) → (k ≤ j → start F j ≤ k) → start F (suc j) ≤ k
      go (yes q) r = let e = start_on F j (on j (omega arith) (omega arith)) in omega (arith, r (omega arith))
      go (no q) r = omega arith

-- ---- values

module _ (s : Setting) (F P : ℕ → Bool) (xs : List ℕ) where
  -- no other run covers k
  alone : (j d k : ℕ) → F j ≡ false → k < j → value s F P xs (suc j + d) k ≡ value s F P xs (suc j) k
  alone j zero k off h = ap (λ (n : ℕ). value s F P xs n k) (let e : suc j + 0 ≡ suc j = omega arith in e)
  alone j (suc d) k off h =
      ap (λ (n : ℕ). value s F P xs n k) (let e : suc j + suc d ≡ suc (suc j + d) = omega arith in e)
      ∙ value_missed s F P xs (suc j + d) k (λ t. false≢true (sym off ∙ run_flagged F (suc j + d) j (omega (arith, t.from)) (omega arith)))
      ∙ alone j d k off h

  -- in a mended run
  pub value_mended : (J j k : ℕ) → j < J → mends s F P j ≡ true → start F j ≤ k → k < j → value s F P xs J k ≡ mended_at F xs j k
  value_mended J j k h m a b =
      let hit : mends s F P j && covers F j k ≡ true = rw (m, le-leb (start F j) k a, lt-ltb k j b) in
      let t = hit_says s F P xs j k hit in
      ap (λ (n : ℕ). value s F P xs n k) (let e : J ≡ suc j + (J - suc j) = omega arith in e)
      ∙ alone j (J - suc j) k t.off b
      ∙ value_hit s F P xs j k hit

  -- in none
  pub value_other : (J k : ℕ) → ((j : ℕ) → j < J → mends s F P j ≡ true → start F j ≤ k → k < j → ⊥) → value s F P xs J k ≡ at xs k
  unfolding value
  value_other zero k none = refl
  value_other (suc j) k none = go (mends s F P j && covers F j k) refl (value_other j k (λ i h. none i (omega arith)))
    where
      split : (m c : Bool) → m && c ≡ true → m ≡ true
      split true c e = refl
      split false c e = e

      go : (b : Bool) → mends s F P j && covers F j k ≡ b → value s F P xs j k ≡ at xs k → value s F P xs (suc j) k ≡ at xs k
      go true e r = let t = hit_says s F P xs j k e in absurd (none j (omega arith) (split (mends s F P j) (covers F j k) e) t.from t.upto)
      go false e r = value_miss s F P xs j k e ∙ r

  -- the reader's form
  pub value_is : (J k : ℕ) → value s F P xs J k ≡ mended_or_raw s F P xs J k
  unfolding mended_or_raw
  value_is J k = go (F k && (ltb j J && mends s F P j)) refl
    where
      j : ℕ
      j = end_from F (J - k) k

      go : (t : Bool) → F k && (ltb j J && mends s F P j) ≡ t → value s F P xs J k ≡ cond t (mended_at F xs j k) (at xs k)
      go true e =
          let p = both (F k) (ltb j J && mends s F P j) e in
          let q = both (ltb j J) (mends s F P j) p.1 in
          let ended = ltb-true j J q.0 in
          let on : (i : ℕ) → k ≤ i → i < j → F i ≡ true = λ i. end_flagged F (J - k) k i in
          let some = end_some F (J - k) k p.0 (omega (arith, end_after F (J - k) k)) in
          value_mended J j k ended q.1 (start_le F j k (omega arith) on) some
      go false e =
          value_other J k
          (λ i h m a b.
          let t = hit_says s F P xs i k (rw (m, le-leb (start F i) k a, lt-ltb k i b)) in
          let same : j ≡ i = end_is F (J - k) k i (omega arith) (omega arith) (λ z c. run_flagged F i z (omega arith)) t.off in
          let all : F k && (ltb j J && mends s F P j) ≡ true = rw (same, m, lt-ltb i J h, run_flagged F i k a b) in
          false≢true (sym e ∙ all))
