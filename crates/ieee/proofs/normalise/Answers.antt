-- `ieee::normalise` meets its contract: a significand of 53 digits leaves room for its leading one at 61. Assumes nothing.
use Rattle.std.proofs.Common.{◌≡◌, ℕ, ◌*◌, ◌%◌, ◌^◌, ◌<◌, ap, ◌∙◌, lt_of_lt_of_le, mod-eq_of_lt, arith, lit≤}
use Rattle.ieee.specs.Normal.{shift_of}
use Rattle.ieee.proofs.laws.NormalLaws.{Placed, placed}
use Rattle.ieee.proofs.normalise.Goals as goal

place : (c : goal.After-significand-m) → Placed c.significand-m.result
place c = placed c.significand-m.result (omega arith)

pub overflow_cast-shift : goal.overflow_cast-shift
overflow_cast-shift c = let p = place c in omega arith

pub overflow_sub-shift : goal.overflow_sub-shift
overflow_sub-shift c = let p = place c in omega arith

pub overflow_shl-result : goal.overflow_shl-result
overflow_shl-result c = let p = place c in omega arith

moved : (m n : ℕ) → m ≡ n → m * 2 ^ shift_of m < 2 ^ 62 → m * 2 ^ shift_of m % 2 ^ 64 ≡ n * 2 ^ shift_of n
moved m n e h = mod-eq_of_lt (lt_of_lt_of_le h (lit≤ tt)) ∙ ap (λ (m : ℕ). m * 2 ^ shift_of m) e

pub returns : goal.returns
returns c =
    record {
      place = c.saturating_sub.ensures;
      shift = ap shift_of c.significand-m.ensures;
      digits = moved _ _ c.significand-m.ensures (place c.before).high;
    }
