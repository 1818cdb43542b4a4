-- A size at most a limit: as a bound, and as a number from minus the limit to the limit. Assumes nothing.
use Rattle.std.specs.Prelude.{◌≡◌, refl, Bool, true, false, ◌&&◌, ◌||◌, ℕ, ◌+◌, ◌*◌, ◌^◌, ◌≤◌, T, ltb, eqb, ℤ, pos, Float}
use Rattle.std.proofs.Common.{sym, ap, ◌∙◌, subst, arith, lit<, ltb-false, eq-eqb, ne_eqb, eqb-true}
use Rattle.std.specs.Float.{nan, inf, fin}
use Rattle.std.specs.Float.Ieee.{up, down, neg, lt, eq, le, of_bits}
use Rattle.std.specs.Float.Ieee.Fits.{and_l, and_i}
use Rattle.std.proofs.lemmas.Bool.{eqb-false}
use Rattle.ieee.specs.Bound.{Within}
use Rattle.ieee.proofs.laws.Bounds.{or_le, within_mono}
use Rattle.ieee.proofs.laws.LowerBounds.{within_between}
use Rattle.complex.specs.Complex.{sample_of, WordWithin}
use Rattle.rules.specs.Constants.{part_limit}
use Rattle.rules.specs.Guard.{magnitude}
use Rattle.rules.specs.Refusals.{within_limit}

-- ---- as a bound

pub size_within : (x : Float) (m : ℕ) (e : ℤ) → T (le (magnitude x) (fin false m e)) → Within x (m * up e) (down e)
unfolding le magnitude
size_within nan m e t = t
size_within (inf s) m e t = t
size_within (fin s n d) m e t = or_le (n * up d * down e) (m * up e * down d) true t

pub within_size : (x : Float) (m : ℕ) (e : ℤ) → Within x (m * up e) (down e) → T (le (magnitude x) (fin false m e))
unfolding magnitude
within_size nan m e w = absurd w
within_size (inf s) m e w = absurd w
within_size (fin s n d) m e w = and_l (le (fin false n d) (fin false m e)) (le (fin true m e) (fin false n d)) (within_between (fin false n d) m e w)

-- ---- 'within 1e18', the paper's test, as a bound
limit_is : part_limit ≡ fin false 3814697265625 (pos 18)
unfolding of_bits
limit_is = refl

pub limited_part : (x : Float) → T (le (magnitude x) part_limit) → Within x (10 ^ 18) 1
limited_part x t = size_within x 3814697265625 (pos 18) (subst (λ (y : Float). T (le (magnitude x) y)) limit_is t)

pub part_limited : (x : Float) (b : ℕ) → b ≤ 10 ^ 18 → Within x b 1 → T (le (magnitude x) part_limit)
part_limited x b l w =
    subst (λ (y : Float). T (le (magnitude x) y)) (sym limit_is)
    (within_size x 3814697265625 (pos 18) (within_mono x b 1 (10 ^ 18) 1 (lit< tt) (omega arith) w))

pub word_limited : (w b : ℕ) → b ≤ 10 ^ 18 → WordWithin b w → T (within_limit w)
unfolding within_limit
word_limited w b l h =
    and_i (le (magnitude (sample_of w).re) part_limit) (le (magnitude (sample_of w).im) part_limit) (part_limited (sample_of w).re b l h.0)
    (part_limited (sample_of w).im b l h.1)

-- ---- as two tests

-- -b is below +a, or both are zero
signs : (a b : ℕ) → (ltb 0 (a + b) || (eqb a b && (false || eqb a 0))) ≡ true
signs a b = go (ltb 0 (a + b)) refl
  where
    go : (t : Bool) → ltb 0 (a + b) ≡ t → (t || (eqb a b && (false || eqb a 0))) ≡ true
    go true e = refl
    go false e =
        let z = ltb-false 0 (a + b) e in
        let p : eqb a b ≡ true = eq-eqb a b (omega arith) in
        let q : eqb a 0 ≡ true = eq-eqb a 0 (omega arith) in
        rw (p, q)

eqb_sym : (a b : ℕ) → eqb a b ≡ eqb b a
eqb_sym a b = go (eqb b a) refl
  where
    go : (t : Bool) → eqb b a ≡ t → eqb a b ≡ t
    go true e = eq-eqb a b (sym (eqb-true b a e))
    go false e = ne_eqb a b (λ p. eqb-false b a e (sym p))

and_true : (b : Bool) → (b && true) ≡ b
and_true true = refl
and_true false = refl

pub size-le : (x : Float) (m : ℕ) (e : ℤ) → le (magnitude x) (fin false m e) ≡ (le (fin true m e) x && le x (fin false m e))
unfolding magnitude le lt eq
size-le nan m e = refl
size-le (inf true) m e = refl
size-le (inf false) m e = refl
size-le (fin false n d) m e =
    ap (λ (t : Bool). t && le (fin false n d) (fin false m e)) (sym (signs (m * up e * down d) (n * up d * down e)))
size-le (fin true n d) m e =
    let a = n * up d * down e in
    let b = m * up e * down d in
    sym
    (ap (λ (t : Bool). le (fin true m e) (fin true n d) && t) (signs a b)
    ∙ and_true (le (fin true m e) (fin true n d))
    ∙ ap (λ (t : Bool). ltb a b || (t && true)) (eqb_sym b a))

pub part_between : (x : Float) → le (magnitude x) part_limit ≡ (le (neg part_limit) x && le x part_limit)
unfolding neg
part_between x = subst (λ (y : Float). le (magnitude x) y ≡ (le (neg y) x && le x y)) (sym limit_is) (size-le x 3814697265625 (pos 18))
