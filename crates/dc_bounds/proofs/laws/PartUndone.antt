-- One part, taken and undone: x less its level, and that and the level, each rounded to binary64 and then to binary32. The four roundings come to
-- 2 ^ -23 + 2 ^ -52. Assumes nothing.
use Rattle.std.specs.Prelude.{◌≡◌, refl, Bool, true, false, not, cond, ℕ, ◌+◌, ◌-◌, ◌*◌, ◌^◌, ◌≤◌, ◌<◌, T, Float}
use Rattle.std.proofs.Common.{sym, ap, ◌∙◌, subst, le_refl, le_trans, le_of_eq, add-le-add, mul-one, one-mul, mul_assoc, mul_right_comm, add-mul, mul-le-mul_right, le_of_mul-le-mul_right, arith, lit≤, pow_pos}
use Rattle.std.specs.Bool.{beq}
use Rattle.std.specs.Float.{nan, inf, fin, binary32, binary64}
use Rattle.std.specs.Float.Ieee.{round, add, sub, fits}
use Rattle.std.specs.Float.Ieee.Fits.{fits_widens}
use Rattle.std.specs.Float.Ieee.Exact.{HasValue}
use Rattle.ieee.specs.Bound.{Within, distance}
use Rattle.ieee.specs.Narrow.{narrowed}
use Rattle.ieee.proofs.laws.NarrowLaws.{narrowed_value}
use Rattle.ieee.proofs.laws.RootNearest.{rescale}
use Rattle.ieee.proofs.laws.LowerBounds.{value_within, fits_value}
use Rattle.ieee.proofs.laws.RoundingError.{Half, round_near}
use Rattle.ieee.proofs.laws.Signed.{Adds, sign_of, size_of, exact, add_value, sub_value, near_values}
use Rattle.dc_bounds.specs.Undone.{undo_scale, PartUndone}

-- ---- a rounding of ±g / 2 ^ 1074, in units of 2 ^ -1074, for what is at most 2 in size: half of d units are lost
record Kept (x : Float) (u : Bool) (g d : ℕ) : Type 0 where
  size : ℕ
  has : HasValue x u size (2 ^ 1074)
  near : Half size g d
  most : size ≤ 2 ^ 1075

half_cancel : (a b d k : ℕ) → 0 < k → Half (a * k) (b * k) (d * k) → Half a b d
half_cancel a b d k K h = record { over = less a b h.over; under = less b a h.under }
  where
    less : (a b : ℕ) → a * k * 2 ≤ b * k * 2 + d * k → a * 2 ≤ b * 2 + d
    less a b l =
        le_of_mul-le-mul_right
        (le_trans (le_of_eq (mul_right_comm a 2 k))
        (le_trans l (le_of_eq (ap (λ (x : ℕ). x + d * k) (mul_right_comm b k 2) ∙ sym (add-mul (b * 2) d k)))))
        K

kept64 : (u : Bool) (g : ℕ) → g ≤ 2 ^ 1075 → Kept (round binary64 u g (2 ^ 1074)) u g (2 ^ 1022)
kept64 u g h =
    let r = round_near binary64 u g (2 ^ 1074) 1022 (pow_pos 1074) (mul-le-mul_right (2 ^ 1074) h) (lit≤ tt) in
    record { size = r.g; has = r.has; near = half_cancel r.g g (2 ^ 1022) (2 ^ 1074) (pow_pos 1074) r.near; most = r.most }

kept32 : (x : Float) (u : Bool) (g : ℕ) → HasValue x u g (2 ^ 1074) → g ≤ 2 ^ 1075 → Kept (narrowed x) u g (2 ^ 1051)
kept32 x u g v h =
    let r = round_near binary32 u g (2 ^ 1074) 126 (pow_pos 1074) (mul-le-mul_right (2 ^ 149) h) (lit≤ tt) in
    let same : r.g * 2 ^ 1074 ≡ r.g * 2 ^ 925 * 2 ^ 149 = sym (mul_assoc r.g (2 ^ 925) (2 ^ 149)) in
    subst (λ (z : Float). Kept z u g (2 ^ 1051)) (sym (narrowed_value x u g (2 ^ 1074) (pow_pos 1074) v))
    (record {
      size = r.g * 2 ^ 925;
      has = rescale (round binary32 u g (2 ^ 1074)) u r.g (2 ^ 149) (r.g * 2 ^ 925) (2 ^ 1074) (pow_pos 149) same r.has;
      near = half_cancel (r.g * 2 ^ 925) g (2 ^ 1051) (2 ^ 149) (pow_pos 149)
          (subst (λ (z : ℕ). Half z (g * 2 ^ 149) (2 ^ 1051 * 2 ^ 149)) same r.near);
      most = mul-le-mul_right (2 ^ 925) r.most;
    })

-- ---- a sum ±a + ±b, in the same units, rounded to both formats

-- what the two roundings lose at most, in those units
abbrev lost : ℕ
lost = 2 ^ 1021 + 2 ^ 1050

record Taken (x : Float) (s : Bool) (a : ℕ) (t : Bool) (b : ℕ) : Type 0 where
  sign : Bool
  size : ℕ
  has : HasValue x sign size (2 ^ 1074)
  adds : Adds sign size s a t b lost

rounded_twice : (u : Bool) (g r y : ℕ) (s : Bool) (a : ℕ) (t : Bool) (b d e : ℕ) → Adds u g s a t b 0 → Half r g (d + d) → Half y r (e + e)
    → Adds u y s a t b (d + e)
rounded_twice true g r y s a t b d e x p q = record { over = omega (arith, x, p, q); under = omega (arith, x, p, q) }
rounded_twice false g r y s a t b d e x p q = record { over = omega (arith, x, p, q); under = omega (arith, x, p, q) }

taken : (x : Float) (s : Bool) (a : ℕ) (t : Bool) (b : ℕ) → x ≡ round binary64 (sign_of s a t b) (size_of s a t b) (2 ^ 1074) → size_of s a t b ≤ 2 ^ 1075
    → Taken (narrowed x) s a t b
taken x s a t b e h =
    let u = sign_of s a t b in
    let g = size_of s a t b in
    let k : Kept x u g (2 ^ 1022) = subst (λ (z : Float). Kept z u g (2 ^ 1022)) (sym e) (kept64 u g h) in
    let y = kept32 x u k.size k.has k.most in
    record {
      sign = u;
      size = y.size;
      has = y.has;
      adds = rounded_twice u g k.size y.size s a t b (2 ^ 1021) (2 ^ 1050) (exact s a t b) k.near y.near;
    }

-- ---- there and back: ±y is ±a less ±b, and ±z is ±y and ±b

size_most : (s : Bool) (a : ℕ) (t : Bool) (b : ℕ) → size_of s a t b ≤ a + b
size_most s a t b = go (beq s (not t))
  where
    go : (x : Bool) → cond x (a - b + (b - a)) (a + b) ≤ a + b
    go true = omega arith
    go false = omega arith

-- what comes back is no more than a and what was lost
back_most : (s : Bool) (a : ℕ) (t : Bool) (b : ℕ) (u : Bool) (y d : ℕ) → Adds u y s a (not t) b d → size_of u y t b ≤ a + d
back_most true a true b true y d h = omega (arith, h)
back_most true a true b false y d h = omega (arith, h)
back_most true a false b true y d h = omega (arith, h)
back_most true a false b false y d h = omega (arith, h)
back_most false a true b true y d h = omega (arith, h)
back_most false a true b false y d h = omega (arith, h)
back_most false a false b true y d h = omega (arith, h)
back_most false a false b false y d h = omega (arith, h)

back_near : (s : Bool) (a : ℕ) (t : Bool) (b : ℕ) (u : Bool) (y : ℕ) (v : Bool) (z d : ℕ) → Adds u y s a (not t) b d → Adds v z u y t b d
    → distance s a v z ≤ d + d
back_near true a true b u y true z d h k = omega (arith, h, k)
back_near true a true b u y false z d h k = omega (arith, h, k)
back_near true a false b u y true z d h k = omega (arith, h, k)
back_near true a false b u y false z d h k = omega (arith, h, k)
back_near false a true b u y true z d h k = omega (arith, h, k)
back_near false a true b u y false z d h k = omega (arith, h, k)
back_near false a false b u y true z d h k = omega (arith, h, k)
back_near false a false b u y false z d h k = omega (arith, h, k)

-- ---- as floats

record InUnits (x : Float) : Type 0 where
  sign : Bool
  size : ℕ
  has : HasValue x sign size (2 ^ 1074)
  most : size ≤ 2 ^ 1074

-- a value of binary64 of at most 1, in units of 2 ^ -1074
unit_value : (x : Float) → T (fits binary64 x) → Within x 1 1 → InUnits x
unit_value nan F w = absurd w
unit_value (inf s) F w = absurd w
unit_value (fin s m e) F w =
    let v = fits_value binary64 (fin s m e) F tt in
    let a = v.q * 2 ^ v.j in
    let has : HasValue (fin s m e) s a (2 ^ 1074) = (refl, v.is) in
    let l = value_within (fin s m e) s a (2 ^ 1074) 1 1 has w in
    record { sign = s; size = a; has = has; most = le_trans (le_of_eq (sym (mul-one a))) (le_trans l (le_of_eq (one-mul (2 ^ 1074)))) }

pub part_undone : (x l : Float) → T (fits binary32 x) → T (fits binary64 l) → PartUndone x l (narrowed (add binary64 (narrowed (sub binary64 x l)) l))
part_undone x l F G w v =
    let p = unit_value x (fits_widens x F) w in
    let q = unit_value l G v in
    let d = taken (sub binary64 x l) p.sign p.size (not q.sign) q.size
    (sub_value binary64 x l p.sign p.size q.sign q.size (2 ^ 1074) (pow_pos 1074) p.has q.has)
    (le_trans (size_most p.sign p.size (not q.sign) q.size) (add-le-add p.most q.most)) in
    let y = narrowed (sub binary64 x l) in
    let e = taken (add binary64 y l) d.sign d.size q.sign q.size
    (add_value binary64 y l d.sign d.size q.sign q.size (2 ^ 1074) (pow_pos 1074) d.has q.has)
    (le_trans (back_most p.sign p.size q.sign q.size d.sign d.size lost d.adds)
    (le_trans (add-le-add p.most (le_refl lost)) (lit≤ tt))) in
    near_values x (narrowed (add binary64 y l)) p.sign p.size e.sign e.size (2 ^ 1074) (lost + lost) 1 undo_scale (pow_pos 1074) p.has e.has
    (back_near p.sign p.size q.sign q.size d.sign d.size e.sign e.size lost d.adds e.adds) (lit≤ tt)
