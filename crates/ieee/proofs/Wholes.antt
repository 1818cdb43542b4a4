-- A float as a whole number, by a rule for fractions, from the digits that `whole_positive` has. Assumes nothing.
use Rattle.std.proofs.Common.{◌≡◌, ℕ, zero, suc, ◌+◌, ◌-◌, ◌*◌, ◌/◌, ◌%◌, ◌^◌, ◌<◌, ◌≤◌, min, Bool, true, false, cond, ◌⊎◌, sym, refl, ap, ◌∙◌, subst, inl, inr, true≢false, le_trans, le_of_eq, lt_of_lt_of_le, le_of_suc-le-suc, le_of_lt, mul-le-mul_right, mod-lt, mod-eq_of_lt, mul_assoc, suc-mul, mul_comm, div-lt_iff_lt-mul, add-mul, mul-le-mul, le_antisymm, mul-le-mul_left, div-add-mod', le-div_iff_mul-le, mul-one, mul_right_comm, le_of_mul-le-mul_right, div-one, mul_left_comm, arith, lit≤, pow_pos, pow_mono, pow-add, shl_lt}
use native.Mathlib.Nat.{div-eq_of_lt}
use mathlib.Core.Bool.{false≢true}
use lib.Ieee.{Float, nan, inf, fin, up, down}
use lib.Ieee.Fits.{down_pos}
use lib.Ieee.Exact.{HasValue}
use lib.Ieee.Nearest.{div_same}
use Rattle.ieee.specs.Normal.{significand_of, shift_of}
use Rattle.ieee.specs.Whole.{ceil_div, round_div, whole_by, Rule}
use Rattle.ieee.proofs.laws.Numbers.{le_or_lt, pow_split}
use Rattle.ieee.proofs.laws.Fields.{Meaning}
use Rattle.ieee.proofs.laws.NormalLaws.{Placed, placed}

-- ---- the least whole number that is no less
ceil_ge : (a c : ℕ) → 0 < c → a ≤ ceil_div a c * c
ceil_ge a c C =
    let e = div-add-mod' (a + (c - 1)) c in
    let l = mod-lt (a + (c - 1)) C in
    omega arith

ceil_le : (a c n : ℕ) → 0 < c → a ≤ n * c → ceil_div a c ≤ n
ceil_le a c n C h =
    le_of_suc-le-suc ((div-lt_iff_lt-mul {k = c} {x = a + (c - 1)} {y = suc n} C).1 (let s : suc n * c ≡ n * c + c = suc-mul n c in omega arith))

ceil_mono : (a b c d : ℕ) → 0 < b → 0 < d → a * d ≤ c * b → ceil_div a b ≤ ceil_div c d
ceil_mono a b c d B D h =
    ceil_le a b (ceil_div c d) B
    (le_of_mul-le-mul_right (le_trans h (le_trans (mul-le-mul_right b (ceil_ge c d D)) (le_of_eq (mul_right_comm (ceil_div c d) d b)))) D)

ceil_small : (a u : ℕ) → 0 < a → a ≤ u → ceil_div a u ≡ 1
ceil_small a u A h =
    le_antisymm (ceil_le a u 1 (omega arith) (omega arith)) ((le-div_iff_mul-le {k = u} {x = 1} {y = a + (u - 1)} (omega arith)).1 (omega arith))

ceil_zero : (u : ℕ) → 0 < u → ceil_div 0 u ≡ 0
ceil_zero u U = div-eq_of_lt (omega arith)

pub ceil_rule : Rule ceil_div
ceil_rule = record {
  same = λ a b c d B D e. le_antisymm (ceil_mono a b c d B D (le_of_eq e)) (ceil_mono c d a b D B (le_of_eq (sym e)));
  whole = λ n. div-one (n + 0) ∙ omega arith;
  bound = λ a c C. ceil_le a c a C (le_trans (le_of_eq (sym (mul-one a))) (mul-le-mul_left a C));
  far = far;
}
  where
    far : (a u v : ℕ) → a * 2 < u → u ≤ v → ceil_div a u ≡ ceil_div a v
    far zero u v h l = ceil_zero u (omega arith) ∙ sym (ceil_zero v (omega arith))
    far (suc a) u v h l = ceil_small (suc a) u (omega arith) (omega arith) ∙ sym (ceil_small (suc a) v (omega arith) (omega arith))

-- ---- the nearest whole number
round_bound : (a c : ℕ) → 0 < c → round_div a c ≤ a
round_bound a c C =
    le_of_suc-le-suc ((div-lt_iff_lt-mul {k = 2 * c} {x = 2 * a + c} {y = suc a} (omega arith)).1
    (let s : suc a * (2 * c) ≡ a * (2 * c) + 2 * c = suc-mul a (2 * c) in
    let t : a * 2 ≤ a * (2 * c) = mul-le-mul_left a (omega arith) in
    omega arith))

round_none : (a u : ℕ) → a * 2 < u → round_div a u ≡ 0
round_none a u h = div-eq_of_lt (omega arith)

pub round_rule : Rule round_div
round_rule = record {
  same = λ a b c d B D e. div_same (2 * a + b) (2 * b) (2 * c + d) (2 * d) (omega arith) (omega arith) (cross a b c d e);
  whole = λ n. one n;
  bound = round_bound;
  far = λ a u v h l. round_none a u h ∙ sym (round_none a v (omega arith));
}
  where
    one : (n : ℕ) → (2 * n + 1) / 2 ≡ n
    one n = omega arith

    cross : (a b c d : ℕ) → a * d ≡ c * b → (2 * a + b) * (2 * d) ≡ (2 * c + d) * (2 * b)
    cross a b c d e =
        let p : (2 * a + b) * (2 * d) ≡ 2 * a * (2 * d) + b * (2 * d) = add-mul (2 * a) b (2 * d) in
        let q : (2 * c + d) * (2 * b) ≡ 2 * c * (2 * b) + d * (2 * b) = add-mul (2 * c) d (2 * b) in
        let p' : 2 * a * (2 * d) ≡ 4 * (a * d) = four a d in
        let q' : 2 * c * (2 * b) ≡ 4 * (c * b) = four c b in
        let r : b * (2 * d) ≡ d * (2 * b) = simp (mul_assoc, mul_comm, mul_left_comm) in
        omega arith
      where
        four : (a d : ℕ) → 2 * a * (2 * d) ≡ 4 * (a * d)
        four a d = simp (mul_assoc, mul_comm, mul_left_comm) (omega arith)

-- ---- a float by such a rule, from its fields
by_value : (g : ℕ → ℕ → ℕ) → Rule g → (x : Float) (a c : ℕ) → 0 < c → HasValue x false a c → whole_by g x ≡ min (g a c) (2 ^ 64 - 1)
unfolding whole_by
by_value g R nan a c C h = absurd h
by_value g R (inf t) a c C h = absurd h
by_value g R (fin true m e) a c C h = absurd (true≢false h.0)
by_value g R (fin false m e) a c C h = ap (λ (n : ℕ). min n (2 ^ 64 - 1)) (R.same (m * up e) (down e) a c (down_pos e) C h.1)

negative : (g : ℕ → ℕ → ℕ) (x : Float) (a c : ℕ) → HasValue x true a c → 0 ≡ whole_by g x
unfolding whole_by
negative g nan a c h = absurd h
negative g (inf t) a c h = absurd h
negative g (fin false m e) a c h = absurd (false≢true h.0)
negative g (fin true m e) a c h = refl

infinite : (g : ℕ → ℕ → ℕ) (s : Bool) → whole_by g (inf s) ≡ cond s 0 (2 ^ 64 - 1)
unfolding whole_by
infinite g s = refl

pub of_nan : (g : ℕ → ℕ → ℕ) → 0 ≡ whole_by g nan
unfolding whole_by
of_nan g = refl

pub below_zero : (g : ℕ → ℕ → ℕ) (x : Float) (s : Bool) (e t : ℕ) → s ≡ true → Meaning x s e t → 0 ≡ whole_by g x
below_zero g x s e t p (inl v) =
    negative g x (significand_of e t * 2 ^ (e - 1)) (2 ^ 1074) (subst (λ (b : Bool). HasValue x b (significand_of e t * 2 ^ (e - 1)) (2 ^ 1074)) p v.1)
below_zero g x s e t p (inr v) = sym (ap (whole_by g) (v.2 ∙ ap inf p) ∙ infinite g true)

-- ---- the digits w of an f64 that is not negative, with their leading one at 61, and the place y, at which 1074 + shift_of m is the place of ones
module _ (g : ℕ → ℕ → ℕ) (R : Rule g) (x : Float) (s : Bool) (e t : ℕ) (T : t < 2 ^ 52) (S : s ≡ false) where
  abbrev m : ℕ
  m = significand_of e t

  abbrev y : ℕ
  y = e - 1

  abbrev w : ℕ
  w = m * 2 ^ shift_of m

  abbrev first : ℕ
  first = 1074 + shift_of m

  place : Placed m
  place = placed m (omega arith)

  value : e < 2047 → Meaning x s e t → whole_by g x ≡ min (g (w * 2 ^ y) (2 ^ first)) (2 ^ 64 - 1)
  value h (inl v) =
      by_value g R x (m * 2 ^ y) (2 ^ 1074) (pow_pos 1074) (subst (λ (b : Bool). HasValue x b (m * 2 ^ y) (2 ^ 1074)) S v.1)
      ∙ ap (λ (n : ℕ). min n (2 ^ 64 - 1)) (R.same (m * 2 ^ y) (2 ^ 1074) (w * 2 ^ y) (2 ^ first) (pow_pos 1074) (pow_pos first)
      (ap (λ (z : ℕ). m * 2 ^ y * z) (pow-add 2 1074 (shift_of m) ∙ mul_comm (2 ^ 1074) (2 ^ shift_of m)) ∙ sym (mul_assoc (m * 2 ^ y) (2 ^ shift_of m) (2 ^ 1074))
      ∙ ap (λ (z : ℕ). z * 2 ^ 1074) (mul_right_comm m (2 ^ y) (2 ^ shift_of m))))
  value h (inr v) = absurd (no e h v.0)
    where
      no : (e : ℕ) → e < 2047 → 2047 ≤ e → ⊥
      no e p h = omega arith

  -- digits below the ones are dropped, and past the 63rd none is left
  pub low : (r : ℕ) → y ≤ first → r ≡ min (first - y) 63 → Meaning x s e t → g w (2 ^ r) ≡ whole_by g x
  low r h p k =
      let P = place in
      let one : g (w * 2 ^ y) (2 ^ first) ≡ g w (2 ^ (first - y)) =
      R.same (w * 2 ^ y) (2 ^ first) w (2 ^ (first - y)) (pow_pos first) (pow_pos (first - y))
      (mul_assoc w (2 ^ y) (2 ^ (first - y)) ∙ ap (λ (a : ℕ). w * a) (sym (pow-add 2 y (first - y)) ∙ ap (λ (a : ℕ). 2 ^ a) (sum y first h))) in
      let two : g w (2 ^ r) ≡ g w (2 ^ (first - y)) = cap P (le_or_lt (first - y) 63) in
      let b = R.bound w (2 ^ r) (pow_pos r) in
      let H = P.high in
      let fit : g w (2 ^ r) ≡ min (g w (2 ^ r)) (2 ^ 64 - 1) = omega arith in
      let small : e < 2047 = let a = P.most in omega arith in
      fit ∙ ap (λ (n : ℕ). min n (2 ^ 64 - 1)) (two ∙ sym one) ∙ sym (value small k)
    where
      sum : (y f : ℕ) → y ≤ f → y + (f - y) ≡ f
      sum y f h = omega arith

      cap : Placed m → (first - y ≤ 63) ⊎ (63 < first - y) → g w (2 ^ r) ≡ g w (2 ^ (first - y))
      cap P (inl l) = let c : r ≡ first - y = omega arith in ap (λ (a : ℕ). g w (2 ^ a)) c
      cap P (inr l) =
          let c : r ≡ 63 = omega arith in
          let H = P.high in
          let d : w * 2 < 2 ^ 63 = omega arith in
          ap (λ (a : ℕ). g w (2 ^ a)) c ∙ R.far w (2 ^ 63) (2 ^ (first - y)) d (pow_mono (le_of_lt l))

  -- from there on it is a whole number
  grown : first ≤ y → g (w * 2 ^ y) (2 ^ first) ≡ w * 2 ^ (y - first)
  grown h =
      R.same (w * 2 ^ y) (2 ^ first) (w * 2 ^ (y - first)) 1 (pow_pos first) (lit≤ tt) (mul-one (w * 2 ^ y) ∙ sym (pow_split w y first h))
      ∙ R.whole (w * 2 ^ (y - first))

  pub middle : first ≤ y → y ≤ first + 2 → Meaning x s e t → w * 2 ^ (y - first) % 2 ^ 64 ≡ whole_by g x
  middle h l k =
      let P = place in
      let v = w * 2 ^ (y - first) in
      let top : v < 2 ^ 64 = lt_of_lt_of_le (shl_lt 62 (y - first) P.high) (pow_mono {i = 62 + (y - first)} {j = 64} (omega arith)) in
      let fit : v ≡ min v (2 ^ 64 - 1) = omega arith in
      let small : e < 2047 = let a = P.most in omega arith in
      mod-eq_of_lt top ∙ fit ∙ ap (λ (n : ℕ). min n (2 ^ 64 - 1)) (sym (grown h)) ∙ sym (value small k)

  pub large : first + 2 < y → Meaning x s e t → 2 ^ 64 - 1 ≡ whole_by g x
  large h (inr v) = sym (ap (whole_by g) (v.2 ∙ ap inf S) ∙ infinite g false)
  large h (inl v) =
      let P = place in
      let full : 2 ^ 61 ≤ w = P.low (omega arith) in
      let high : 2 ^ 3 ≤ 2 ^ (y - first) = pow_mono {i = 3} {j = y - first} (omega arith) in
      let top : 2 ^ 61 * 2 ^ 3 ≤ w * 2 ^ (y - first) = mul-le-mul full high in
      let fit : 2 ^ 64 - 1 ≡ min (w * 2 ^ (y - first)) (2 ^ 64 - 1) = omega arith in
      fit ∙ ap (λ (n : ℕ). min n (2 ^ 64 - 1)) (sym (grown (omega arith))) ∙ sym (value v.0 (inl v))
