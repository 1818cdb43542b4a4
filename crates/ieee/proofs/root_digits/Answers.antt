-- `ieee::root_digits` meets its contract. Its invariant is `Found` of `proofs/Rooting.antt`. Assumes nothing.
use Rattle.std.proofs.Common.{ℕ, ◌+◌, ◌-◌, ◌*◌, ◌/◌, ◌%◌, ◌^◌, ◌<◌, ◌≤◌, Bool, true, false, not, T, ltb, refl, arith, ltb→lt, nltb→le}
use mir.Val.{bool_byte}
use Rattle.ieee.proofs.Rooting.{Found, found_none, found_same, found_zero, found_one, found_all}
use Rattle.ieee.proofs.root_digits.Goals as goal

-- what holds of 1 if a test passes, and of 0 if not, holds of the test as a number
by_bit : (P : ℕ → Type 0) (a b : ℕ) → (a < b → P 1) → (b ≤ a → P 0) → P (bool_byte (ltb a b))
by_bit P a b h k = go (ltb a b) (ltb→lt a b) (nltb→le a b)
  where
    go : (t : Bool) → (T t → a < b) → (T (not t) → b ≤ a) → P (bool_byte t)
    go true l g = h (l tt)
    go false l g = k (g tt)

pub loop-init : goal.loop-init
loop-init c = found_none c.args.w c.ranges.w.fits

pub overflow_mul-rest-in-loop-2 : goal.overflow_mul-rest-in-loop-2
overflow_mul-rest-in-loop-2 c =
    record {
      fits =
          by_bit (λ (t : ℕ). (c.loop.r * 4 + 1) * t < 2 ^ 64) (c.loop.r * 4) (c.loop.rest * 4 + c.loop.m / 2 ^ 62)
          (λ h. omega arith) (λ h. omega arith);
    }

pub overflow_sub-rest : goal.overflow_sub-rest
overflow_sub-rest c =
    by_bit (λ (t : ℕ). (c.loop.r * 4 + 1) * t ≤ c.loop.rest * 4 + c.loop.m / 2 ^ 62) (c.loop.r * 4)
    (c.loop.rest * 4 + c.loop.m / 2 ^ 62) (λ h. omega arith) (λ h. omega arith)

pub overflow_add-r : goal.overflow_add-r
overflow_add-r c =
    record {
      fits =
          by_bit (λ (t : ℕ). c.loop.r * 2 + t < 2 ^ 64) (c.loop.r * 4) (c.loop.rest * 4 + c.loop.m / 2 ^ 62)
          (λ h. omega arith) (λ h. omega arith);
    }

pub loop-preserved : goal.loop-preserved
loop-preserved c =
    let s = c.loop in
    let rest = s.rest * 4 + s.m / 2 ^ 62 in
    let t = c.loop-test.true in
    by_bit (λ (t : ℕ). Found c.args.w (s.m % 2 ^ 62 * 4) (rest - (s.r * 4 + 1) * t) (s.r * 2 + t) (s.counter + 1)) _ _
    (λ h. found_same (omega arith) (omega arith) (found_one _ _ _ _ _ _ s.invariant t refl h))
    (λ h. found_same (omega arith) (omega arith) (found_zero _ _ _ _ _ _ s.invariant t refl h))

pub returns : goal.returns
returns c = found_all _ _ _ _ _ c.loop.invariant c.loop-test.false
