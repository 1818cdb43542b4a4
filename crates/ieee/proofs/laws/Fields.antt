-- An f64 by the fields of its bit pattern: a number of the format's smallest values, or an infinity. Assumes nothing.
use Rattle.std.specs.Prelude.{◌≡◌, ℕ, zero, suc, ◌+◌, ◌-◌, ◌*◌, ◌/◌, ◌%◌, ◌^◌, ◌<◌, ◌≤◌, Bool, true, false, cond, not, T, ◌⊎◌, ◌==◌, ◌≢◌, nat_le, to_bits, refl, Float}
use Rattle.std.proofs.Common.{sym, ap, ◌∙◌, subst, inr, mod-lt, arith, eqb→eq, pow_pos, le-ltb}
use Rattle.std.proofs.Math.Logic.{inl}
use Rattle.std.proofs.Math.Pow.{field}
use Rattle.std.specs.Float.{nan, inf, binary64}
use Rattle.std.specs.Float.Ieee.{odd, of_fields, of_bits, is_nan, fits}
use Rattle.std.specs.Float.Ieee.Fits.{eq→eqb}
use Rattle.std.specs.Float.Ieee.Exact.{HasValue, odd_sign}
use Rattle.std.specs.Float.Ieee.Bits.{of_bits-to_bits, nan_bits_is}
use Rattle.ieee.proofs.laws.Nan.{no_nan_bits}
use Rattle.ieee.specs.Normal.{exponent_in, significand_of}

-- what the sign s, the exponent's field e and the digits t say of x
abbrev pub Meaning : Float → Bool → ℕ → ℕ → Type 0
Meaning x s e t = ((e < 2047) × HasValue x s (significand_of e t * 2 ^ (e - 1)) (2 ^ 1074)) ⊎ ((2047 ≤ e) × (t ≡ 0) × (x ≡ inf s))

odd_as : (s : Bool) (e t q k : ℕ) → q ≡ significand_of e t → k ≡ e - 1 → HasValue (odd 53 s q k 1074) s (significand_of e t * 2 ^ (e - 1)) (2 ^ 1074)
odd_as s e t q k p r =
    subst (λ (a : ℕ). HasValue (odd 53 s q k 1074) s a (2 ^ 1074)) (ap (λ (x : ℕ). x * 2 ^ k) p ∙ ap (λ (x : ℕ). significand_of e t * 2 ^ x) r)
    (odd_sign 53 s q k 1074)

below_ones : (e : ℕ) → e < 2048 → (e ≢ 2047) → e < 2047
below_ones e h n = omega arith

meaning_fields : (s : Bool) (e t : ℕ) → e < 2048 → T (not (is_nan (of_fields binary64 s e t))) → Meaning (of_fields binary64 s e t) s e t
unfolding of_fields
meaning_fields s zero t h n = inl (omega arith, odd_as s 0 t t 0 (omega arith) (omega arith))
meaning_fields s (suc x) t h n = go (suc x == 2047) (eqb→eq (suc x) 2047) (λ e. eq→eqb e) (t == 0) (eqb→eq t 0) n
  where
    go : (b : Bool) → (T b → suc x ≡ 2047) → (suc x ≡ 2047 → T b) → (d : Bool) → (T d → t ≡ 0)
        → T (not (is_nan (cond b (cond d (inf s) nan) (odd 53 s (2 ^ 52 + t) x 1074))))
        → Meaning (cond b (cond d (inf s) nan) (odd 53 s (2 ^ 52 + t) x 1074)) s (suc x) t
    go true e f true z n = let k = e tt in inr (omega arith, z tt, refl)
    go true e f false z n = absurd (unfold is_nan in n)
    go false e f d z n = inl (below_ones (suc x) h f, odd_as s (suc x) t (2 ^ 52 + t) x (omega arith) (omega arith))

of_fields_lem : (b : ℕ) → of_bits binary64 b ≡ of_fields binary64 (nat_le (2 ^ 63) b) (exponent_in b) (b % 2 ^ 52)
unfolding of_bits
of_fields_lem b = ap (λ (e : ℕ). of_fields binary64 (nat_le (2 ^ 63) b) e (b % 2 ^ 52)) (field b 11 52)

pub meaning_bits : (b : ℕ) → T (not (is_nan (of_bits binary64 b))) → Meaning (of_bits binary64 b) (nat_le (2 ^ 63) b) (exponent_in b) (b % 2 ^ 52)
meaning_bits b N =
    let e = exponent_in b in
    let v = of_fields_lem b in
    subst (λ (z : Float). Meaning z (nat_le (2 ^ 63) b) e (b % 2 ^ 52)) (sym v)
    (meaning_fields (nat_le (2 ^ 63) b) e (b % 2 ^ 52) (mod-lt (b / 2 ^ 52) (pow_pos 11)) (subst (λ (z : Float). T (not (is_nan z))) v N))

-- up to the infinity's pattern, none is a NaN's
pub number_bits : (b : ℕ) → b ≤ 2047 * 2 ^ 52 → T (not (is_nan (of_bits binary64 b)))
number_bits b h = subst (λ (t : Bool). T (not t)) (nan_bits_is binary64 b) (no_nan_bits binary64 b (le-ltb (2047 * 2 ^ 52) (b % 2 ^ 63) (omega arith)))

pub meaning : (x : Float) → T (fits binary64 x) → T (not (is_nan x)) → let b = to_bits binary64 x in Meaning x (nat_le (2 ^ 63) b) (exponent_in b) (b % 2 ^ 52)
meaning x F N =
    let b = to_bits binary64 x in
    let v = of_bits-to_bits binary64 x F in
    subst (λ (z : Float). Meaning z (nat_le (2 ^ 63) b) (exponent_in b) (b % 2 ^ 52)) v (meaning_bits b (subst (λ (z : Float). T (not (is_nan z))) (sym v) N))
