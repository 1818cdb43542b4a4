-- A hop added by pairs, a channel and its mirror at a time: the words of two channels are apart, so their order is free. Assumes nothing.
use mathlib.Core.Path.{◌≡◌, refl, sym, ap, ◌∙◌}
use mathlib.Core.Logic.{◌≢◌}
use mathlib.Core.List.{List}
use Prim.Native.Nat.{ℕ, zero, suc, ◌+◌, ◌-◌, ◌*◌, ◌≤◌, ◌<◌}
use native.Mathlib.Omega.{arith}
use lib.ListN.{length, get_or, set}
use lib.Seq.{get_or-set_other, set_comm}
use lib.Ieee.{Float, nan, binary64, add}
use Rattle.complex.specs.Complex.{Complex}
use Rattle.rules.specs.Constants.{zero_f}
use Rattle.iq_monitor.specs.Words.{power_in, product_in, added_terms, added_channel, added_hop}
use Rattle.iq_monitor.proofs.laws.WordsLaws.{length_terms}

-- ---- two channels

abbrev turned : List Float → ℕ → (Float → Float) → List Float
turned ws i g = set ws i (g (get_or ws i nan))

swapped : (ws : List Float) (i j : ℕ) (g h : Float → Float) → i ≢ j → turned (turned ws i g) j h ≡ turned (turned ws j h) i g
swapped ws i j g h ne =
    ap (λ (x : Float). set (turned ws i g) j (h x)) (get_or-set_other ws i j (g (get_or ws i nan)) nan (λ e. ne (sym e)))
    ∙ set_comm ws i j (g (get_or ws i nan)) (h (get_or ws j nan)) ne
    ∙ ap (λ (x : Float). set (turned ws j h) i (g x)) (sym (get_or-set_other ws j i (h (get_or ws j nan)) nan ne))

-- a word that is none of channel k's
past_terms : (n k i : ℕ) (g : Float → Float) (ws : List Float) (p : Float) (c : Complex) → i ≢ k → i ≢ n + k → i ≢ 2 * n + k → i ≢ 3 * n + k
    → added_terms n (turned ws i g) k p c ≡ turned (added_terms n ws k p c) i g
unfolding added_terms
past_terms n k i g ws p c h₀ h₁ h₂ h₃ =
    let f₀ : Float → Float = λ x. add binary64 x p in
    let f₁ : Float → Float = λ x. add binary64 x c.re in
    let f₂ : Float → Float = λ x. add binary64 x c.im in
    let f₃ : Float → Float = λ x. zero_f in
    let ws₁ = turned ws k f₀ in
    let ws₂ = turned ws₁ (n + k) f₁ in
    let ws₃ = turned ws₂ (2 * n + k) f₂ in
    ap (λ (l : List Float). turned (turned (turned l (n + k) f₁) (2 * n + k) f₂) (3 * n + k) f₃) (swapped ws i k g f₀ h₀)
    ∙ ap (λ (l : List Float). turned (turned l (2 * n + k) f₂) (3 * n + k) f₃) (swapped ws₁ i (n + k) g f₁ h₁)
    ∙ ap (λ (l : List Float). turned l (3 * n + k) f₃) (swapped ws₂ i (2 * n + k) g f₂ h₂)
    ∙ swapped ws₃ i (3 * n + k) g f₃ h₃

terms_swapped : (n j k : ℕ) (ws : List Float) (p q : Float) (c d : Complex) → j < k → k < n
    → added_terms n (added_terms n ws j p c) k q d ≡ added_terms n (added_terms n ws k q d) j p c
unfolding added_terms
terms_swapped n j k ws p q c d h l =
    let f₀ : Float → Float = λ x. add binary64 x p in
    let f₁ : Float → Float = λ x. add binary64 x c.re in
    let f₂ : Float → Float = λ x. add binary64 x c.im in
    let f₃ : Float → Float = λ x. zero_f in
    let ws₁ = turned ws j f₀ in
    let ws₂ = turned ws₁ (n + j) f₁ in
    let ws₃ = turned ws₂ (2 * n + j) f₂ in
    past_terms n k (3 * n + j) f₃ ws₃ q d (λ e. omega arith) (λ e. omega arith) (λ e. omega arith) (λ e. omega arith)
    ∙ ap (λ (m : List Float). turned m (3 * n + j) f₃)
    (past_terms n k (2 * n + j) f₂ ws₂ q d (λ e. omega arith) (λ e. omega arith) (λ e. omega arith) (λ e. omega arith))
    ∙ ap (λ (m : List Float). turned (turned m (2 * n + j) f₂) (3 * n + j) f₃)
    (past_terms n k (n + j) f₁ ws₁ q d (λ e. omega arith) (λ e. omega arith) (λ e. omega arith) (λ e. omega arith))
    ∙ ap (λ (m : List Float). turned (turned (turned m (n + j) f₁) (2 * n + j) f₂) (3 * n + j) f₃)
    (past_terms n k j f₀ ws q d (λ e. omega arith) (λ e. omega arith) (λ e. omega arith) (λ e. omega arith))

-- ---- a run of channels: count of them, from first on
module _ (xs : List ℕ) where
  run : List Float → ℕ → ℕ → List Float
  run ws first zero = ws
  run ws first (suc count) = added_channel xs (run ws first count) (first + count)

  length_run : (ws : List Float) (first count : ℕ) → length (run ws first count) ≡ length ws
  unfolding run
  length_run ws first zero = refl
  length_run ws first (suc count) = length_terms (length xs) (run ws first count) (first + count) (power_in xs (first + count)) (product_in xs (first + count))
      ∙ length_run ws first count

  -- the first of them first
  run_first : (ws : List Float) (first count : ℕ) → run ws first (suc count) ≡ run (added_channel xs ws first) (suc first) count
  unfolding run
  run_first ws first zero = ap (added_channel xs ws) (let z : first + 0 ≡ first = omega arith in z)
  run_first ws first (suc count) = (λ i. added_channel xs (run_first ws first count i) ((let z : first + suc count ≡ suc first + count = omega arith in z) i))

  -- a channel below them goes before or after
  run_past : (ws : List Float) (first count k : ℕ) → k < first → first + count ≤ length xs
      → added_channel xs (run ws first count) k ≡ run (added_channel xs ws k) first count
  unfolding run
  run_past ws first zero k h l = refl
  run_past ws first (suc count) k h l =
      sym (terms_swapped (length xs) k (first + count) (run ws first count) (power_in xs k) (power_in xs (first + count)) (product_in xs k)
      (product_in xs (first + count)) (omega arith) (omega arith))
      ∙ ap (λ (m : List Float). added_channel xs m (first + count)) (run_past ws first count k h (omega arith))

  -- a run behind the first channels
  run_hop : (ws : List Float) (first count : ℕ) → run (added_hop xs ws first) first count ≡ added_hop xs ws (first + count)
  unfolding run added_hop
  run_hop ws first zero = ap (added_hop xs ws) (let z : first ≡ first + 0 = omega arith in z)
  run_hop ws first (suc count) =
      ap (λ (m : List Float). added_channel xs m (first + count)) (run_hop ws first count)
      ∙ ap (added_hop xs ws) (let z : suc (first + count) ≡ first + suc count = omega arith in z)

  -- ---- the channels from 1 on, below k, and their mirrors
  pub paired : List Float → ℕ → List Float
  paired ws k = run (run ws 1 (k - 1)) (length xs + 1 - k) (k - 1)

  pub paired_none : (ws : List Float) → ws ≡ paired ws 1
  unfolding paired run
  paired_none ws = refl

  pub paired_next : (ws : List Float) (k : ℕ) → 0 < k → k + k < length xs
      → added_channel xs (added_channel xs (paired ws k) k) (length xs - k) ≡ paired ws (k + 1)
  unfolding paired run
  paired_next ws k h l =
      let n = length xs in
      let x = run ws 1 (k - 1) in
      let a : n + 1 - k ≡ suc (n - k) = omega arith in
      let b : suc (k - 1) ≡ k + 1 - 1 = omega arith in
      let c : n - k ≡ n + 1 - (k + 1) = omega arith in
      let d : k ≡ 1 + (k - 1) = omega arith in
      ap (λ (f : ℕ). added_channel xs (added_channel xs (run x f (k - 1)) k) (n - k)) a
      ∙ ap (λ (m : List Float). added_channel xs m (n - k)) (run_past x (suc (n - k)) (k - 1) k (omega arith) (omega arith))
      ∙ run_past (added_channel xs x k) (suc (n - k)) (k - 1) (n - k) (omega arith) (omega arith)
      ∙ sym (run_first (added_channel xs x k) (n - k) (k - 1))
      ∙ ap (λ (i : ℕ). run (added_channel xs x i) (n - k) (suc (k - 1))) d
      ∙ (λ i. run (run ws 1 (b i)) (c i) (b i))

  -- behind channel 0
  behind_first : (ws : List Float) (k : ℕ) → 0 < k → run (added_channel xs ws 0) 1 (k - 1) ≡ added_hop xs ws k
  unfolding added_hop
  behind_first ws k h = run_hop ws 1 (k - 1) ∙ ap (added_hop xs ws) (let z : 1 + (k - 1) ≡ k = omega arith in z)

  -- then all are there, or all but the one in the middle
  pub paired_all : (ws : List Float) (k : ℕ) → k + k ≡ length xs + 1 → paired (added_channel xs ws 0) k ≡ added_hop xs ws (length xs)
  unfolding paired
  paired_all ws k e =
      let a : length xs + 1 - k ≡ k = omega arith in
      (λ i. run (behind_first ws k (omega arith) i) (a i) (k - 1))
      ∙ run_hop ws k (k - 1)
      ∙ ap (added_hop xs ws) (let z : k + (k - 1) ≡ length xs = omega arith in z)

  pub paired_middle : (ws : List Float) (k : ℕ) → 0 < k → k + k ≡ length xs → added_channel xs (paired (added_channel xs ws 0) k) k ≡ added_hop xs ws (length xs)
  unfolding paired added_hop
  paired_middle ws k h e =
      let a : length xs + 1 - k ≡ suc k = omega arith in
      (λ i. added_channel xs (run (behind_first ws k h i) (a i) (k - 1)) k)
      ∙ run_past (added_hop xs ws k) (suc k) (k - 1) k (omega arith) (omega arith)
      ∙ run_hop ws (suc k) (k - 1)
      ∙ ap (added_hop xs ws) (let z : suc k + (k - 1) ≡ length xs = omega arith in z)
