-- `ieee::shifted` meets its contract: `closest` by one test. Assumes nothing.
use Rattle.std.proofs.Common.{◌≡◌, ℕ, ◌+◌, ◌-◌, ◌*◌, ◌/◌, ◌%◌, ◌^◌, ◌<◌, ◌≤◌, sym, ap, ◌∙◌, mod-lt, div-le_self, arith, pow_pos}
use native.Mathlib.Nat.{mod-le}
use lib.Bits.{bit_and, and_mask}
use Rattle.ieee.proofs.laws.Numbers.{one_shl}
use Rattle.ieee.proofs.laws.RoundedBits.{closest_up, closest_down}
use Rattle.ieee.proofs.shifted.Goals as goal

-- what the code's locals are, as numbers
record Known (m r : ℕ) : Type 0 where
  unit : 1 * 2 ^ r % 2 ^ 64 ≡ 2 ^ r
  rest : bit_and m (1 * 2 ^ r % 2 ^ 64 - 1) ≡ m % 2 ^ r
  above : 0 < 2 ^ r
  under : m % 2 ^ r < 2 ^ r
  small : m % 2 ^ r ≤ m
  less : m / 2 ^ r ≤ m

known : (m r : ℕ) → r < 64 → Known m r
known m r R =
    let u : 1 * 2 ^ r % 2 ^ 64 ≡ 2 ^ r = one_shl r R in
    record {
      unit = u;
      rest = ap (λ (x : ℕ). bit_and m (x - 1)) u ∙ and_mask m r;
      above = pow_pos r;
      under = mod-lt m (pow_pos r);
      small = mod-le m (2 ^ r);
      less = div-le_self m (2 ^ r);
    }

pub overflow_sub-rest : goal.overflow_sub-rest
overflow_sub-rest c = let k = known c.args.m c.args.r c.requires.shift in omega arith

pub overflow_mul-rest : goal.overflow_mul-rest
overflow_mul-rest c = let k = known c.args.m c.args.r c.requires.shift in omega arith

pub overflow_add-rest : goal.overflow_add-rest
overflow_add-rest c = let k = known c.args.m c.args.r c.requires.shift in omega arith

pub overflow_add-result : goal.overflow_add-result
overflow_add-result c = let k = known c.args.m c.args.r c.requires.shift in omega arith

pub returns-then-rest-q : goal.returns-then-rest-q
returns-then-rest-q c =
    let m = c.args.m in
    let r = c.args.r in
    let k = known m r c.requires.shift in
    let h : 2 ^ r < m % 2 ^ r * 2 + m / 2 ^ r % 2 = omega arith in
    sym (closest_up m (2 ^ r) h)

pub returns-else-rest-q : goal.returns-else-rest-q
returns-else-rest-q c =
    let m = c.args.m in
    let r = c.args.r in
    let k = known m r c.requires.shift in
    let h : m % 2 ^ r * 2 + m / 2 ^ r % 2 ≤ 2 ^ r = omega arith in
    sym (closest_down m (2 ^ r) h)
