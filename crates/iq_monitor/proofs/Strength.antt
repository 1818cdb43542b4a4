-- The strongest channel: which channels are not eligible, and that those change nothing. Assumes nothing.
use mathlib.Core.Path.{◌≡◌, refl, sym, ap, ◌∙◌}
use mathlib.Core.Bool.{Bool, true, false, cond, ◌&&◌}
use mathlib.Core.List.{List}
use Prim.Native.Nat.{ℕ, zero, suc, ◌+◌, ◌-◌, ◌/◌, ◌≤◌, ◌<◌}
use native.Mathlib.Omega.{arith}
use native.Mathlib.Numerals.{add-one}
use native.Mathlib.Nat.{add-zero}
use lib.Dec.{ltb}
use lib.ListN.{length}
use lib.Ieee.{Float}
use borrow.Author.Tests.{ltb-true, lt-ltb}
use Rattle.rules.specs.Monitor.{Choice, nobody, channel_at, eligible, stronger, strongest}
use Rattle.iq_monitor.specs.Observe.{power_at, EligibleFrom, stronger_of}

eligible_by : (n k : ℕ) → 2 < k → k + 2 < n → 2 < (k - n / 2) + (n / 2 - k) → eligible n k ≡ true
eligible_by n k a b c = rw (lt-ltb 2 k a, lt-ltb (k + 2) n b, lt-ltb 2 ((k - n / 2) + (n / 2 - k)) c)

not_eligible : (n k : ℕ) → (2 < k → k + 2 < n → 2 < (k - n / 2) + (n / 2 - k) → ⊥) → eligible n k ≡ false
not_eligible n k f = go (ltb 2 k) (ltb (k + 2) n) (ltb 2 ((k - n / 2) + (n / 2 - k))) refl refl refl
  where
    go : (a b c : Bool) → ltb 2 k ≡ a → ltb (k + 2) n ≡ b → ltb 2 ((k - n / 2) + (n / 2 - k)) ≡ c → (a && b && c) ≡ false
    go true true true x y z = absurd (f (ltb-true 2 k x) (ltb-true (k + 2) n y) (ltb-true 2 ((k - n / 2) + (n / 2 - k)) z))
    go true true false x y z = refl
    go true false c x y z = refl
    go false b c x y z = refl

module _ (n : ℕ) (P : ℕ → Float) where
  passed : (k : ℕ) → eligible n k ≡ false → strongest n P (suc k) ≡ strongest n P k
  unfolding strongest
  passed k e = ap (λ (b : Bool). cond b (stronger P (strongest n P k) k) (strongest n P k)) e

  skip : (a d : ℕ) → ((i : ℕ) → a ≤ i → i < a + d → eligible n i ≡ false) → strongest n P (a + d) ≡ strongest n P a
  skip a zero f = ap (strongest n P) (add-zero a)
  skip a (suc d) f =
      ap (strongest n P) (let q : a + suc d ≡ suc (a + d) = omega arith in q)
      ∙ passed (a + d) (f (a + d) (omega arith) (omega arith))
      ∙ skip a d (λ i h k. f i h (omega arith))

  -- the first channels, the middle and the end are passed over
  pub few : n < 11 → nobody ≡ strongest n P n
  unfolding strongest
  few h = sym (ap (strongest n P) (let q : n ≡ 0 + n = omega arith in q) ∙ skip 0 n (λ i a b. not_eligible n i (λ x y z. omega arith)))

  pub lower_start : 12 ≤ n → channel_at 3 ≡ strongest n P 4
  unfolding strongest
  lower_start h =
      sym (ap (λ (b : Bool). cond b (stronger P (strongest n P 3) 3) (strongest n P 3)) (eligible_by n 3 (omega arith) (omega arith) (omega arith))
      ∙ ap (λ (c : Choice). stronger P c 3) (skip 0 3 (λ i a b. not_eligible n i (λ x y z. omega arith))))

  pub lower_half : 12 ≤ n → EligibleFrom n 4 (n / 2 - 2)
  lower_half h i a b = eligible_by n i (omega arith) (omega arith) (omega arith)

  pub past_middle : 12 ≤ n → strongest n P (n / 2 - 2) ≡ strongest n P (n / 2 + 3)
  past_middle h =
      sym (ap (strongest n P) (let q : n / 2 + 3 ≡ n / 2 - 2 + 5 = omega arith in q) ∙ skip (n / 2 - 2) 5 (λ i a b. not_eligible n i (λ x y z. omega arith)))

  pub upper_half : 12 ≤ n → EligibleFrom n (n / 2 + 3) (n - 2)
  upper_half h i a b = eligible_by n i (omega arith) (omega arith) (omega arith)

  pub past_end : 12 ≤ n → strongest n P (n - 2) ≡ strongest n P n
  past_end h = sym (ap (strongest n P) (let q : n ≡ n - 2 + 2 = omega arith in q) ∙ skip (n - 2) 2 (λ i a b. not_eligible n i (λ x y z. omega arith)))

-- of 11 channels
pub only_one : (n : ℕ) (P : ℕ → Float) → n ≡ 11 → channel_at 8 ≡ strongest n P n
unfolding strongest
only_one n P e = sym (ap (λ (m : ℕ). strongest m P m) e)

-- ---- one more channel

pub next_strongest : (ps : List Float) (j k : ℕ) → eligible (length ps) k ≡ true → channel_at j ≡ strongest (length ps) (power_at ps) k
    → stronger_of ps (channel_at j) k ≡ strongest (length ps) (power_at ps) (k + 1)
unfolding strongest
next_strongest ps j k e f =
    ap (λ (c : Choice). stronger_of ps c k) f
    ∙ sym (ap (strongest (length ps) (power_at ps)) (add-one k)
    ∙ ap (λ (b : Bool). cond b (stronger_of ps (strongest (length ps) (power_at ps) k) k) (strongest (length ps) (power_at ps) k)) e)
