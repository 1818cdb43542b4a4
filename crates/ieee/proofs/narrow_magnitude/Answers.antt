-- `ieee::narrow_magnitude` meets its contract: each step is the pattern's, and none passes its word. Assumes nothing.
use Rattle.std.proofs.Common.{◌≡◌, ℕ, suc, ◌+◌, ◌-◌, ◌*◌, ◌/◌, ◌%◌, ◌^◌, ◌<◌, ◌≤◌, min, le_trans, div-le_self, arith, lit<}
use Prim.Native.Nat.{compare}
use lib.Ieee.Fits.{nearest-le}
use lib.Ieee.Nearest.{closest}
use Rattle.ieee.specs.declared.Normal.{Normal}
use Rattle.ieee.specs.Normal.{exponent_in, significand_in, shift_of, Normalised}
use Rattle.ieee.specs.Narrow.{pattern_of}
use Rattle.ieee.proofs.laws.NormalLaws.{placed}
use Rattle.ieee.proofs.narrow_magnitude.Goals as goal

-- the bounds on what was taken apart
record Ground (n : Normal) : Type 0 where
  high : n.digits < 2 ^ 62
  near : n.shift ≤ 62
  far : n.place ≤ 2046

ground : (b : ℕ) (n : Normal) → Normalised b n → Ground n
ground b n u = let p = placed (significand_in b) (omega arith) in record { high = omega arith; near = omega arith; far = omega arith }

closest_le : (m u : ℕ) → closest m u ≤ suc m
closest_le m u = le_trans (nearest-le (m / u) (compare (m % u * 2) u)) (next (m / u) (div-le_self m u))
  where
    next : (x : ℕ) → x ≤ m → suc x ≤ suc m
    next x h = omega arith

-- the steps, each from what it needs alone: `omega` takes up to six `-` and `min` in reach
drop_lt : (u a k : ℕ) → u ≡ min a k → k < 64 → u < 64
drop_lt u a k e h = omega arith

field_lt : (k y x : ℕ) → k ≡ y - x → y ≤ 2046 → k * 0x80_0000 < 2 ^ 64
field_lt k y x e h = omega arith

sum_lt : (k y x q w u : ℕ) → k ≡ y - x → y ≤ 2046 → q ≡ closest w u → w < 2 ^ 62 → k * 0x80_0000 + q < 2 ^ 64
sum_lt k y x q w u e h f l = let b = closest_le w u in omega arith

pattern_lt : (p a : ℕ) → p ≡ min a 0x7f80_0000 → p < 2 ^ 32
pattern_lt p a e = omega arith

made : (b : ℕ) (n : Normal) (d u q k p : ℕ) → Normalised b n → d ≡ 887 + n.shift - n.place → u ≡ min (38 + d) 63 → q ≡ closest n.digits (2 ^ u)
    → k ≡ n.place - (887 + n.shift)
    → p ≡ min (k * 2 ^ 23 + q) 0x7f80_0000 → p ≡ pattern_of (significand_in b) (exponent_in b - 1) (shift_of (significand_in b))
made b n d u q k p a h1 h2 h3 h4 h5 = cc

pub overflow_add-first : goal.overflow_add-first
overflow_add-first c = let g = ground _ _ c.normalise-n.ensures in omega arith

pub overflow_add-saturating_sub : goal.overflow_add-saturating_sub
overflow_add-saturating_sub c = let g = ground _ _ c.normalise-n.ensures in omega arith

pub shifted-q-requires : goal.shifted-q-requires
shifted-q-requires c =
    record {
      digits = (ground _ _ c.normalise-n.ensures).high;
      shift = drop_lt _ _ _ c.min.ensures (lit< tt);
    }

pub overflow_mul-saturating_sub : goal.overflow_mul-saturating_sub
overflow_mul-saturating_sub c = record { fits = field_lt _ _ _ c.saturating_sub-2.ensures (ground _ _ c.normalise-n.ensures).far }

pub overflow_add-saturating_sub-2 : goal.overflow_add-saturating_sub-2
overflow_add-saturating_sub-2 c =
    let g = ground _ _ c.normalise-n.ensures in
    record { fits = sum_lt _ _ _ _ _ _ c.saturating_sub-2.ensures g.far c.shifted-q.ensures g.high }

pub overflow_cast-result : goal.overflow_cast-result
overflow_cast-result c = record { fits = pattern_lt _ _ c.min-2.ensures }

pub returns : goal.returns
returns c =
    made _ _ _ _ _ _ _ c.normalise-n.ensures c.saturating_sub.ensures
    c.min.ensures
    c.shifted-q.ensures
    c.saturating_sub-2.ensures
    c.min-2.ensures
