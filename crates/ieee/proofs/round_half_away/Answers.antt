-- `ieee::round_half_away` adds half of the divisor, a power of two. Assumes nothing.
use Rattle.std.proofs.Common.{◌≡◌, ℕ, ◌+◌, ◌*◌, ◌/◌, ◌^◌, ◌<◌, ◌⊎◌, sym, ap, ◌∙◌, inl, inr, mul_assoc, eq-zero-or-pos, mul_left_comm, arith, pow_pos, rules}
use lib.Ieee.Nearest.{div_same}
use Rattle.ieee.specs.Whole.{round_div}
use Rattle.ieee.proofs.laws.Numbers.{pow_twice}
use Rattle.ieee.proofs.Wholes.{round_rule}
use Rattle.ieee.proofs.round_half_away.Goals as goal

-- half of 2 ^ r, or 0 of 1
halves : (r : ℕ) → (2 ^ r ≡ 1) ⊎ (2 ^ r ≡ 2 * (2 ^ r / 2))
halves r = elim (eq-zero-or-pos r) [ inl z ↦ inl (ap (λ (x : ℕ). 2 ^ x) z) | inr p ↦ inr (let t = pow_twice r p in omega arith) ]

away : (m u : ℕ) → 0 < u → (u ≡ 1) ⊎ (u ≡ 2 * (u / 2)) → (m + u / 2) / u ≡ round_div m u
away m u U (inl e) = ap (λ (u : ℕ). (m + u / 2) / u) e ∙ omega arith ∙ sym (ap (round_div m) e)
away m u U (inr e) =
    div_same (m + u / 2) u (2 * m + u) (2 * u) U (omega arith) (mul_left_comm (m + u / 2) 2 u ∙ sym (mul_assoc 2 (m + u / 2) u) ∙ ap (λ (x : ℕ). x * u) sum)
  where
    sum : 2 * (m + u / 2) ≡ 2 * m + u
    sum = omega arith

pub returns : goal.returns
returns c =
    c.whole.ensures round_div
    (record { rule = round_rule; cut = λ a r y l p. let e : y ≡ 2 ^ r / 2 = search rules in ap (λ (x : ℕ). (a + x) / 2 ^ r) e ∙ away a (2 ^ r) (pow_pos r) (halves r) })
