-- `ieee::dropped` meets its contract: the unit is a power of two that its word holds. Assumes nothing.
use Rattle.std.proofs.Common.{◌≡◌, ℕ, ◌*◌, ◌%◌, ◌^◌, ◌<◌, ◌≤◌, arith, pow_pos, pow_mono, subst, refl, rules}
use Rattle.ieee.proofs.laws.Numbers.{one_shl}
use Rattle.ieee.proofs.dropped.Goals as goal

record Known (r : ℕ) : Type 0 where
  unit : 1 * 2 ^ r % 2 ^ 64 ≡ 2 ^ r
  some : 0 < 2 ^ r
  bound : 2 ^ r ≤ 2 ^ 63

known : (r : ℕ) → r < 64 → Known r
known r l = record { unit = one_shl r l; some = pow_pos r; bound = pow_mono {i = r} {j = 63} (omega arith) }

pub added-requires : goal.added-requires
added-requires g c = let k = known c.args.r c.requires.shift in search rules

pub overflow_add-result : goal.overflow_add-result
overflow_add-result g c =
    let k = known c.args.r c.requires.shift in
    let s = c.requires.small _ _ c.added.ensures in
    omega arith

pub returns : goal.returns
returns g c =
    let k = known c.args.r c.requires.shift in
    (c.added.result, subst (λ (u : ℕ). goal.F-post g c.args.added u c.added.result) k.unit c.added.ensures, refl)
