-- The pattern that `narrow` makes of an f64's fields is that of `narrowed`. Assumes nothing.
use Rattle.std.proofs.Common.{◌≡◌, ℕ, ◌+◌, ◌-◌, ◌*◌, ◌%◌, ◌^◌, ◌<◌, ◌≤◌, min, Bool, cond, not, T, leb, ◌⊎◌, sym, refl, ap, ◌∙◌, subst, inl, inr, lt_of_lt_of_le, le_of_lt, mod-lt, mul_assoc, mul_comm, mul_right_comm, arith, pow_pos, pow_mono, pow-add}
use lib.Ieee.{Float, inf, binary32, binary64, round, to_bits, is_nan, fits}
use lib.Ieee.Nearest.{closest}
use lib.Ieee.Scale.{round_same}
use Rattle.ieee.specs.Narrow.{narrowed, pattern_of, pattern_in}
use Rattle.ieee.specs.Normal.{exponent_in, significand_of, shift_of}
use Rattle.ieee.proofs.laws.Numbers.{le_or_lt}
use Rattle.ieee.proofs.laws.RoundedBits.{closest_small, round_bits}
use Rattle.ieee.proofs.laws.Fields.{Meaning, meaning}
use Rattle.ieee.proofs.laws.NormalLaws.{placed}
use Rattle.ieee.proofs.laws.NarrowLaws.{narrowed_value}

infinite : (s : Bool) → to_bits binary32 (narrowed (inf s)) ≡ cond s (2 ^ 31) 0 + 255 * 2 ^ 23
unfolding narrowed to_bits
infinite s = refl

-- digits past the 63rd are as good as none
capped : (w r : ℕ) → w < 2 ^ 62 → closest w (2 ^ r) ≡ closest w (2 ^ min r 63)
capped w r h = go (le_or_lt r 63)
  where
    double : w * 2 < 2 ^ 63
    double = omega arith

    go : (r ≤ 63) ⊎ (63 < r) → closest w (2 ^ r) ≡ closest w (2 ^ min r 63)
    go (inl l) = let c : r ≡ min r 63 = omega arith in ap (λ (x : ℕ). closest w (2 ^ x)) c
    go (inr l) =
        let c : 63 ≡ min r 63 = omega arith in
        closest_small w (2 ^ r) (lt_of_lt_of_le double (pow_mono (le_of_lt l))) ∙ sym (closest_small w (2 ^ 63) double) ∙ ap (λ (x : ℕ). closest w (2 ^ x)) c

bits : (s : Bool) (m y : ℕ) → m < 2 ^ 53 → (0 < y → 2 ^ 52 ≤ m)
    → to_bits binary32 (round binary32 s (m * 2 ^ y) (2 ^ 1074)) ≡ cond s (2 ^ 31) 0 + pattern_of m y (shift_of m)
bits s m y hi lo =
    let c = shift_of m in
    let p = placed m hi in
    let w = m * 2 ^ c in
    let r = 38 + (887 + c - y) in
    let k = y - (887 + c) in
    ap (to_bits binary32) (round_same binary32 s (m * 2 ^ y) (2 ^ 1074) (w * 2 ^ y) (2 ^ (1074 + c)) (pow_pos 1074) (pow_pos (1074 + c))
    (ap (λ (x : ℕ). m * 2 ^ y * x) (pow-add 2 1074 c ∙ mul_comm (2 ^ 1074) (2 ^ c)) ∙ sym (mul_assoc (m * 2 ^ y) (2 ^ c) (2 ^ 1074))
    ∙ ap (λ (x : ℕ). x * 2 ^ 1074) (mul_right_comm m (2 ^ y) (2 ^ c))))
    ∙ round_bits binary32 w y (1074 + c) k r (omega arith) (lt_of_lt_of_le p.high (pow_mono {i = 62} {j = 24 + r} (omega arith)))
    (λ g. subst (λ (x : ℕ). 2 ^ x ≤ w) (lead y c g) (p.low (lt_of_lt_of_le (pow_pos 52) (lo (omega arith)))))
    s
    ∙ ap (λ (q : ℕ). cond s (2 ^ 31) 0 + min (k * 2 ^ 23 + q) (255 * 2 ^ 23)) (capped w r p.high)
  where
    lead : (y c : ℕ) → 0 < y - (887 + c) → 61 ≡ 23 + (38 + (887 + c - y))
    lead y c g = omega arith

pub narrow_bits_is : (x : Float) → T (fits binary64 x) → T (not (is_nan x)) → pattern_in (to_bits binary64 x) ≡ to_bits binary32 (narrowed x)
narrow_bits_is x F N = let b = to_bits binary64 x in sym (go (leb (2 ^ 63) b) (exponent_in b) (b % 2 ^ 52) (mod-lt b (pow_pos 52)) (meaning x F N))
  where
    go : (s : Bool) (e t : ℕ) → t < 2 ^ 52 → Meaning x s e t
        → to_bits binary32 (narrowed x) ≡ cond s (2 ^ 31) 0 + pattern_of (significand_of e t) (e - 1) (shift_of (significand_of e t))
    go s e t h (inl v) =
        ap (to_bits binary32) (narrowed_value x s (significand_of e t * 2 ^ (e - 1)) (2 ^ 1074) (pow_pos 1074) v.1)
        ∙ bits s (significand_of e t) (e - 1) (omega arith) (λ p. omega arith)
    go s e t h (inr v) =
        let m = significand_of e t in
        let p = placed m (omega arith) in
        let f = p.full (omega arith) in
        let far : 255 * 2 ^ 23 ≡ pattern_of m (e - 1) (shift_of m) = top (e - 1) (shift_of m) _ (omega arith) f in
        ap (λ (z : Float). to_bits binary32 (narrowed z)) v.2 ∙ infinite s ∙ ap (λ (z : ℕ). cond s (2 ^ 31) 0 + z) far
      where
        top : (y c q : ℕ) → 2046 ≤ y → c ≤ 9 → 255 * 2 ^ 23 ≡ min ((y - (887 + c)) * 2 ^ 23 + q) (255 * 2 ^ 23)
        top y c q h l = omega arith
