-- `sample_guard::is_usable` meets its contract. Assumes nothing.
use mathlib.Core.Path.{◌≡◌, sym, ◌∙◌}
use mathlib.Core.Bool.{Bool, true, false, ◌&&◌}
use Prim.Native.Nat.{◌%◌, ◌^◌}
use native.Mathlib.Omega.{arith}
use borrow.Author.Tests.{le-leb, lt-leb}
use Rattle.amplitude_limit.specs.Limit.{under}
use Rattle.sample_guard.proofs.laws.GuardLaws.{usable_pattern}
use Rattle.sample_guard.proofs.is_usable.Goals as goal

first_out : (a b : Bool) → a ≡ false → a ≡ (a && b)
first_out a b e = rw e

first_in : (a b : Bool) → a ≡ true → b ≡ (a && b)
first_in a b e = rw e

pub returns-else-w-le-MAX_PATTERN : goal.returns-else-w-le-MAX_PATTERN
unfolding under
returns-else-w-le-MAX_PATTERN c =
    let w = c.args.w in
    first_out _ _ (lt-leb (w % 2 ^ 31) 0x5bb1_a2bc (omega (arith, c.if-w-le-MAX_PATTERN.false))) ∙ sym (usable_pattern w)

pub returns-then-w-le-MAX_PATTERN : goal.returns-then-w-le-MAX_PATTERN
unfolding under
returns-then-w-le-MAX_PATTERN c =
    let w = c.args.w in
    first_in _ _ (le-leb (w % 2 ^ 31) 0x5bb1_a2bc (omega (arith, c.if-w-le-MAX_PATTERN.true))) ∙ sym (usable_pattern w)
