-- A product of two floats, or of two complex numbers, is that in the other order; so a channel and its mirror have one product. Assumes nothing.
use mathlib.Core.Path.{◌≡◌, refl, sym, ap, ◌∙◌}
use mathlib.Core.Bool.{Bool, true, false, cond, ◌&&◌}
use mathlib.Core.List.{List}
use Prim.Native.Nat.{ℕ, ◌-◌, ◌*◌, ◌%◌, ◌<◌}
use native.Mathlib.Nat.{mul_comm, add_comm, mod-eq_of_lt}
use native.Mathlib.Omega.{arith}
use lib.Dec.{ltb}
use lib.ListN.{length}
use lib.Ieee.{Float, nan, inf, fin, Format, binary64, up, down, round, sum, add, sub, mul}
use borrow.Author.Tests.{ltb-true, ltb-false}
use Rattle.complex.specs.Complex.{Complex, product, sample_of}
use Rattle.rules.specs.Lists.{at}
use Rattle.iq_monitor.specs.Words.{product_in}

float_product : (f : Format) (x y : Float) → mul f x y ≡ mul f y x
unfolding mul
float_product f nan nan = refl
float_product f nan (inf t) = refl
float_product f nan (fin t n d) = refl
float_product f (inf s) nan = refl
float_product f (inf true) (inf true) = refl
float_product f (inf true) (inf false) = refl
float_product f (inf false) (inf true) = refl
float_product f (inf false) (inf false) = refl
float_product f (inf true) (fin true n d) = refl
float_product f (inf true) (fin false n d) = refl
float_product f (inf false) (fin true n d) = refl
float_product f (inf false) (fin false n d) = refl
float_product f (fin s m e) nan = refl
float_product f (fin true m e) (inf true) = refl
float_product f (fin true m e) (inf false) = refl
float_product f (fin false m e) (inf true) = refl
float_product f (fin false m e) (inf false) = refl
float_product f (fin true m e) (fin true n d) = λ i. round f false (mul_comm (m * up e) (n * up d) i) (mul_comm (down e) (down d) i)
float_product f (fin true m e) (fin false n d) = λ i. round f true (mul_comm (m * up e) (n * up d) i) (mul_comm (down e) (down d) i)
float_product f (fin false m e) (fin true n d) = λ i. round f true (mul_comm (m * up e) (n * up d) i) (mul_comm (down e) (down d) i)
float_product f (fin false m e) (fin false n d) = λ i. round f false (mul_comm (m * up e) (n * up d) i) (mul_comm (down e) (down d) i)

-- a positive b and a negative a
opposite : (f : Format) (a b c : ℕ)
    → cond (ltb a b) (round f false (b - a) c) (round f (true && ltb b a) (a - b) c)
    ≡ cond (ltb b a) (round f true (a - b) c) (round f (false && ltb a b) (b - a) c)
opposite f a b c = go (ltb a b) (ltb b a) refl refl
  where
    go : (s t : Bool) → ltb a b ≡ s → ltb b a ≡ t
        → cond s (round f false (b - a) c) (round f (true && t) (a - b) c) ≡ cond t (round f true (a - b) c) (round f (false && s) (b - a) c)
    go true true p q = let x = ltb-true a b p in let y = ltb-true b a q in absurd (omega arith)
    go true false p q = refl
    go false true p q = refl
    go false false p q = let x = ltb-false a b p in let y = ltb-false b a q in ap (λ (m : ℕ). round f false m c) (let z : a - b ≡ b - a = omega arith in z)

finite_sum : (f : Format) (s t : Bool) (a b c : ℕ) → sum f s a t b c ≡ sum f t b s a c
unfolding sum
finite_sum f true true a b c = ap (λ (m : ℕ). round f true m c) (add_comm a b)
finite_sum f true false a b c = opposite f a b c
finite_sum f false true a b c = sym (opposite f b a c)
finite_sum f false false a b c = ap (λ (m : ℕ). round f false m c) (add_comm a b)

float_sum : (f : Format) (x y : Float) → add f x y ≡ add f y x
unfolding add
float_sum f nan nan = refl
float_sum f nan (inf t) = refl
float_sum f nan (fin t n d) = refl
float_sum f (inf s) nan = refl
float_sum f (inf true) (inf true) = refl
float_sum f (inf true) (inf false) = refl
float_sum f (inf false) (inf true) = refl
float_sum f (inf false) (inf false) = refl
float_sum f (inf s) (fin t n d) = refl
float_sum f (fin s m e) nan = refl
float_sum f (fin s m e) (inf t) = refl
float_sum f (fin s m e) (fin t n d) = finite_sum f s t (m * up e * down d) (n * up d * down e) (down e * down d)
    ∙ ap (sum f t (n * up d * down e) s (m * up e * down d)) (mul_comm (down e) (down d))

product_turned : (f : Format) (a b : Complex) → product f a b ≡ product f b a
unfolding product
product_turned f a b = λ i.
    record {
      re = sub f (float_product f a.re b.re i) (float_product f a.im b.im i);
      im = (float_sum f (mul f a.re b.im) (mul f a.im b.re) ∙ (λ j. add f (float_product f a.im b.re j) (float_product f a.re b.im j)))
          i;
    }

-- the mirror of channel k has the product of k
pub mirrored : (xs : List ℕ) (k : ℕ) → 0 < k → k < length xs → product_in xs (length xs - k) ≡ product_in xs k
mirrored xs k h l =
    let n = length xs in
    let there : (n - k) % n ≡ n - k = mod-eq_of_lt (omega arith) in
    let back : (n - (n - k)) % n ≡ k = ap (λ (m : ℕ). m % n) (let z : n - (n - k) ≡ k = omega arith in z) ∙ mod-eq_of_lt l in
    ap (λ (m : ℕ). product binary64 (sample_of (at xs (n - k))) (sample_of (at xs m))) back
    ∙ product_turned binary64 (sample_of (at xs (n - k))) (sample_of (at xs k))
    ∙ ap (λ (m : ℕ). product binary64 (sample_of (at xs k)) (sample_of (at xs m))) (sym there)
