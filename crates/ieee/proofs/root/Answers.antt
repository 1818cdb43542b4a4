-- `ieee::root` meets its contract: by its tests the float is a NaN, a zero, below zero, an infinity, or what `root_finite` takes. Assumes nothing.
use Rattle.std.proofs.Common.{◌≡◌, ℕ, ◌-◌, ◌*◌, ◌%◌, ◌^◌, ◌<◌, ◌≤◌, Bool, true, false, T, leb, sym, ap, ◌∙◌, subst, inl, inr, mul-pos, zero-mul, arith, pow_pos, le-leb}
use lib.Ieee.{Float, nan, inf, binary64, to_bits, fits}
use lib.Ieee.Bits.{of_bits-to_bits}
use lib.Ieee.Exact.{HasValue}
use borrow.Author.Tests.{lt-leb}
use Rattle.ieee.specs.Root.{rooted}
use Rattle.ieee.specs.Normal.{exponent_in, significand_of}
use Rattle.ieee.proofs.laws.Nan.{is_nan_lem, no_nan, zero_by_zero}
use Rattle.ieee.proofs.laws.Fields.{Meaning, meaning}
use Rattle.ieee.proofs.laws.RootValue.{rooted_zero, rooted_negative, rooted_infinite, rooted_minus, rooted_nan}
use Rattle.ieee.proofs.root.Goals as goal

held : (c : goal.Else-x) → T (fits binary64 c.args.x)
held c = subst T (sym c.well_formed.0.1) tt

-- what x is, where it is no NaN
means : (c : goal.Else-x) → let b = to_bits binary64 c.args.x in Meaning c.args.x (leb (2 ^ 63) b) (exponent_in b) (b % 2 ^ 52)
means c = meaning c.args.x (held c) (no_nan c.args.x c.if-x.false)

at_zero : (x : Float) (s : Bool) (e t : ℕ) → e ≡ 0 → t ≡ 0 → Meaning x s e t → x ≡ rooted x
at_zero x s e t p q (inl v) =
    let none : significand_of e t ≡ 0 = omega arith in
    rooted_zero x s (2 ^ 1074) (pow_pos 1074)
    (subst (λ (a : ℕ). HasValue x s a (2 ^ 1074)) (ap (λ (a : ℕ). a * 2 ^ (e - 1)) none ∙ zero-mul (2 ^ (e - 1))) v.1)
at_zero x s e t p q (inr v) = let h = v.0 in absurd (omega arith)

below_zero : (x : Float) (s : Bool) (e t : ℕ) → s ≡ true → 0 < significand_of e t → Meaning x s e t → nan ≡ rooted x
below_zero x s e t p h (inl v) =
    rooted_negative x (significand_of e t * 2 ^ (e - 1)) (2 ^ 1074) (mul-pos h (pow_pos (e - 1)))
    (subst (λ (b : Bool). HasValue x b (significand_of e t * 2 ^ (e - 1)) (2 ^ 1074)) p v.1)
below_zero x s e t p h (inr v) = sym (ap rooted (v.2 ∙ ap inf p) ∙ rooted_minus)

infinite : (x : Float) (s : Bool) (e t : ℕ) → s ≡ false → 2047 ≤ e → Meaning x s e t → x ≡ rooted x
infinite x s e t p h (inl v) = let k = v.0 in absurd (omega arith)
infinite x s e t p h (inr v) = v.2 ∙ ap inf p ∙ sym (ap rooted (v.2 ∙ ap inf p) ∙ rooted_infinite)

pub returns-then-x : goal.returns-then-x
returns-then-x c = zero_by_zero binary64 ∙ sym (ap rooted (is_nan_lem c.args.x c.if-x.true) ∙ rooted_nan)

pub float_to_bits-b : goal.float_to_bits-b
float_to_bits-b c = no_nan c.args.x c.if-x.false

pub returns-then-b-eq0 : goal.returns-then-b-eq0
returns-then-b-eq0 c =
    let b = to_bits binary64 c.args.x in
    let e : exponent_in b ≡ 0 = omega arith in
    let t : b % 2 ^ 52 ≡ 0 = omega arith in
    at_zero _ _ _ _ e t (means c.before)

pub returns-then-b-ge9223372036854775808 : goal.returns-then-b-ge9223372036854775808
returns-then-b-ge9223372036854775808 c =
    let b = to_bits binary64 c.args.x in
    let h : 0 < significand_of (exponent_in b) (b % 2 ^ 52) = omega arith in
    zero_by_zero binary64 ∙ below_zero _ _ _ _ (le-leb _ _ c.if-b-ge9223372036854775808.true) h (means c.before.before)

pub returns-then-b-ge9218868437227405312 : goal.returns-then-b-ge9218868437227405312
returns-then-b-ge9218868437227405312 c =
    let b = to_bits binary64 c.args.x in
    let h : 2047 ≤ exponent_in b = omega arith in
    infinite _ _ _ _ (lt-leb _ _ c.if-b-ge9223372036854775808.false) h (means c.before.before.before)

pub root_finite-requires : goal.root_finite-requires
root_finite-requires c =
    record {
      positive = omega arith;
      finite = omega arith;
    }

pub returns : goal.returns
returns c =
    c.root_finite.ensures ∙ ap rooted (of_bits-to_bits binary64 c.args.x (held c.before.before.before.before))
