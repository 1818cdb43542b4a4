-- The limit on the parts by their bits: what passes that test is within 1e18. Assumes nothing.
use mathlib.Core.Path.{◌≡◌, refl}
use mathlib.Core.Bool.{Bool, true, false, cond}
use mathlib.Core.List.{List, [], ◌∷◌}
use Prim.Native.Nat.{ℕ, zero, suc, ◌+◌, ◌*◌, ◌/◌, ◌%◌, ◌^◌, ◌≤◌, ◌<◌}
use native.Mathlib.Nat.{le_refl, le_trans, mul-le-mul}
use native.Mathlib.Omega.{arith}
use lib.Dec.{T, leb, ltb, eqb, eqb→eq, lit≤}
use lib.Pow.{pow_pos, pow_mono}
use lib.ListN.{length}
use lib.Ieee.{nan, inf, binary32, odd, of_fields, of_bits, le}
use lib.Ieee.Fits.{and_i, and_l, and_r}
use lib.Ieee.Exact.{odd_sign}
use borrow.Author.Tests.{ltb-true, ltb-false}
use Rattle.ieee.specs.Bound.{Within}
use Rattle.ieee.proofs.laws.Bounds.{within_of_value}
use Rattle.complex.specs.Complex.{sample_of}
use Rattle.rules.specs.Constants.{part_limit}
use Rattle.rules.specs.Guard.{magnitude}
use Rattle.rules.proofs.laws.SizeLaws.{part_limited}
use Rattle.rules.specs.Refusals.{within_limit, first_beyond_from}
use Rattle.rules.specs.Lists.{all_of, All}
use Rattle.amplitude_limit.specs.Limit.{under}
use Rattle.amplitude_limit.proofs.laws.LimitLaws.{parts_under, scan_within}

-- ---- a part: sign s, exponent's field e and digits t

bound : (x t : ℕ) → suc x * 2 ^ 23 + t ≤ 0x5d5e_0b6b → t < 2 ^ 23 → (2 ^ 23 + t) * 2 ^ x * 1 ≤ 10 ^ 18 * 2 ^ 149
bound x t h l = go (ltb x 185) refl
  where
    one : (a b : ℕ) → a ≤ b → a * 1 ≤ b
    one a b q = omega arith

    go : (b : Bool) → ltb x 185 ≡ b → (2 ^ 23 + t) * 2 ^ x * 1 ≤ 10 ^ 18 * 2 ^ 149
    go true e =
        let k = ltb-true x 185 e in
        one ((2 ^ 23 + t) * 2 ^ x) (10 ^ 18 * 2 ^ 149)
        (le_trans (mul-le-mul (let q : 2 ^ 23 + t ≤ 2 ^ 24 = omega arith in q) (pow_mono {i = x} {j = 184} (omega arith)))
        (lit≤ {m = 2 ^ 24 * 2 ^ 184} {n = 10 ^ 18 * 2 ^ 149} tt))
    go false e =
        let k = ltb-false x 185 e in
        one ((2 ^ 23 + t) * 2 ^ x) (10 ^ 18 * 2 ^ 149)
        (le_trans (mul-le-mul (let q : 2 ^ 23 + t ≤ 14551915 = omega arith in q) (pow_mono {i = x} {j = 185} (omega arith)))
        (lit≤ {m = 14551915 * 2 ^ 185} {n = 10 ^ 18 * 2 ^ 149} tt))

fields_within : (s : Bool) (e t : ℕ) → e * 2 ^ 23 + t ≤ 0x5d5e_0b6b → t < 2 ^ 23 → Within (of_fields binary32 s e t) (10 ^ 18) 1
unfolding of_fields
fields_within s zero t h l =
    within_of_value (odd 24 s t 0 149) s (t * 2 ^ 0) (2 ^ 149) (10 ^ 18) 1 (pow_pos 149) (odd_sign 24 s t 0 149)
    (le_trans (let q : t * 2 ^ 0 * 1 ≤ 2 ^ 23 = omega arith in q) (lit≤ {m = 2 ^ 23} {n = 10 ^ 18 * 2 ^ 149} tt))
fields_within s (suc x) t h l = go (eqb (suc x) 255) (eqb→eq (suc x) 255)
  where
    go : (b : Bool) → (T b → suc x ≡ 255) → Within (cond b (cond (eqb t 0) (inf s) nan) (odd 24 s (2 ^ 23 + t) x 149)) (10 ^ 18) 1
    go true f = let q = f tt in absurd (omega arith)
    go false f =
        within_of_value (odd 24 s (2 ^ 23 + t) x 149) s ((2 ^ 23 + t) * 2 ^ x) (2 ^ 149) (10 ^ 18) 1 (pow_pos 149)
        (odd_sign 24 s (2 ^ 23 + t) x 149) (bound x t h l)

part_within : (n : ℕ) → n % 2 ^ 31 ≤ 0x5d5e_0b6b → T (le (magnitude (of_bits binary32 n)) part_limit)
unfolding of_bits
part_within n h =
    let x = of_fields binary32 (leb (2 ^ 31) n) (n % 2 ^ 31 / 2 ^ 23) (n % 2 ^ 23) in
    part_limited x (10 ^ 18) (le_refl (10 ^ 18)) (fields_within (leb (2 ^ 31) n) (n % 2 ^ 31 / 2 ^ 23) (n % 2 ^ 23) (omega arith) (omega arith))

-- ---- a sample

under_within : (w : ℕ) → T (under 0x5d5e_0b6b w) → T (within_limit w)
unfolding within_limit sample_of
under_within w t =
    let h = parts_under 0x5d5e_0b6b w t in
    let re = part_within (w % 2 ^ 32) (let q : w % 2 ^ 32 % 2 ^ 31 ≤ 0x5d5e_0b6b = omega (arith, h.0) in q) in
    and_i (le (magnitude (of_bits binary32 (w % 2 ^ 32))) part_limit) (le (magnitude (of_bits binary32 (w / 2 ^ 32))) part_limit) re
    (part_within (w / 2 ^ 32) h.1)

-- all of them
all_under : (ws : List ℕ) → T (all_of (under 0x5d5e_0b6b) ws) → All (λ w. T (within_limit w)) ws
unfolding all_of
all_under [] t = tt
all_under (w ∷ ws) t =
    let a = under 0x5d5e_0b6b w in
    let b = all_of (under 0x5d5e_0b6b) ws in
    (under_within w (and_l a b t), all_under ws (and_r a b t))

pub all_within : (k : ℕ) (ws : List ℕ) → T (all_of (under 0x5d5e_0b6b) ws) → first_beyond_from k ws ≡ k + length ws
all_within k ws t = scan_within k ws (all_under ws t)
