-- All samples 0 but one: whatever its place, its powers sort to zeros and it, so it is dropped from every reference, and none is flagged. Assumes nothing.
use Rattle.std.specs.Prelude.{◌≡◌, refl, ◌⊎◌, ◌≢◌, Bool, true, false, cond, not, ℕ, zero, suc, ◌+◌, ◌*◌, ◌-◌, ◌≤◌, ◌<◌, T, eqb, pos, length, take, drop, replicate, Float}
use Rattle.std.proofs.Common.{ap, sym, ◌∙◌, inl, inr, mul-pos, arith, lit<, length-take, get_or-take, get_or-drop, le-ltb}
use Rattle.std.proofs.lemmas.Bool.{false≢true, eqb-false}
use mathlib.Core.List.{List, [], ◌∷◌, ◌++◌, map, foldl}
use Rattle.std.proofs.Math.Decide.{dec_lt, ℕ_discrete}
use Rattle.std.proofs.lemmas.List.{length-replicate, take-append-le}
use Rattle.std.proofs.Math.ListN.{get_or-eq_default}
use Rattle.std.specs.Float.{nan, inf, fin, binary32, binary64}
use Rattle.std.specs.Float.Ieee.{up, down, round, unlike, add, div, lt, le, eq, is_nan, fits, of_int, of_bits}
use Rattle.std.specs.Float.Ieee.Fits.{up_pos}
use Rattle.ieee.specs.Bound.{Within}
use Rattle.ieee.proofs.laws.Bounds.{round_within, whole_value}
use Rattle.ieee.specs.Plain.{Plain, key}
use Rattle.ieee.proofs.laws.Order.{lt_key, plain_total}
use Rattle.complex.specs.Complex.{sample_of}
use Rattle.rules.specs.Constants.{zero_f}
use Rattle.rules.specs.Guard.{magnitude, usable_part, usable}
use Rattle.rules.specs.Lists.{at}
use Rattle.rules.proofs.laws.TestLaws.{both}
use Rattle.rules.proofs.laws.ListLaws.{length-map}
use Rattle.rules.specs.Sort.{insert, sort}
use Rattle.rules.proofs.laws.SortLaws.{power_plain}
use Rattle.rules.specs.Impulse.{Setting, power_of, reference, stands_out, flagged}
use Rattle.rules.proofs.laws.Computing.{floats, guard_rules}

-- ---- a power is 0 or above it

number : (x : Float) → usable_part x ≡ true → T (not (is_nan x))
unfolding usable_part magnitude le lt eq is_nan
number nan e = absurd (false≢true e)
number (inf s) e = tt
number (fin s m d) e = tt

zero_plain : Plain binary32 zero_f
unfolding of_bits fits
zero_plain = (tt, tt)

zero_power : power_of 0 ≡ zero_f
unfolding floats power_of
zero_power = refl

zero_usable : usable 0 ≡ true
unfolding floats guard_rules
zero_usable = refl

zero_least : lt zero_f zero_f ≡ false
unfolding floats
zero_least = refl

-- a power p
Power : Float → Type 0
Power p = (p ≡ zero_f) ⊎ ((lt zero_f p ≡ true) × (lt p zero_f ≡ false))

power_of_lem : (w : ℕ) → usable w ≡ true → Power (power_of w)
unfolding usable Power of_bits
power_of_lem w e = go (lt zero_f (power_of w)) refl
  where
    plain : Plain binary32 (power_of w)
    plain =
        let u = both (usable_part (sample_of w).re) (usable_part (sample_of w).im) e in
        power_plain w (record { re = number (sample_of w).re u.0; im = number (sample_of w).im u.1 })

    not_under : lt (power_of w) zero_f ≡ false
    not_under = lt_key binary32 (power_of w) zero_f plain zero_plain ∙ le-ltb (key binary32 (power_of w)) (key binary32 zero_f) (omega arith)

    go : (t : Bool) → lt zero_f (power_of w) ≡ t → Power (power_of w)
    go true h = inr (h, not_under)
    go false h = inl (plain_total binary32 (power_of w) zero_f plain zero_plain not_under h)

-- ---- sorted: n zeros, or n and a power above them

data Topped : List Float → ℕ → Type 0 where
  zeros : (n : ℕ) → Topped (replicate n zero_f) n
  topped : (n : ℕ) (p : Float) → lt p zero_f ≡ false → Topped (replicate n zero_f ++ (p ∷ [])) (suc n)

insert_zero : {l : List Float} {n : ℕ} → Topped l n → Topped (insert lt zero_f l) (suc n)
unfolding insert
insert_zero (zeros zero) = zeros 1
insert_zero (zeros (suc n)) = rw zero_least (zeros (suc (suc n)))
insert_zero (topped zero p h) = rw h (topped 1 p h)
insert_zero (topped (suc n) p h) = rw zero_least (topped (suc (suc n)) p h)

insert_above : (n : ℕ) (p : Float) → lt zero_f p ≡ true → insert lt p (replicate n zero_f) ≡ replicate n zero_f ++ (p ∷ [])
unfolding insert
insert_above zero p h = refl
insert_above (suc n) p h = rw h (ap (λ (l : List Float). zero_f ∷ l) (insert_above n p h))

-- the words of samples: usable, and of any two one is 0
record Lone (ws : List ℕ) : Type 0 where
  fine : (i : ℕ) → usable (at ws i) ≡ true
  one_zero : (i j : ℕ) → i < j → (at ws i ≡ 0) ⊎ (at ws j ≡ 0)

sort_zeros : (ws : List ℕ) → ((i : ℕ) → at ws i ≡ 0) → sort lt (map power_of ws) ≡ replicate (length ws) zero_f
unfolding sort insert
sort_zeros [] h = refl
sort_zeros (w ∷ ws) h =
    ap (λ (p : Float). insert lt p (sort lt (map power_of ws))) (ap power_of (h 0) ∙ zero_power)
    ∙ ap (insert lt zero_f) (sort_zeros ws (λ i. h (suc i)))
    ∙ first (length ws)
  where
    first : (n : ℕ) → insert lt zero_f (replicate n zero_f) ≡ replicate (suc n) zero_f
    first zero = refl
    first (suc n) = rw zero_least

lone_behind : (w : ℕ) (ws : List ℕ) → Lone (w ∷ ws) → Lone ws
lone_behind w ws h = record { fine = λ i. h.fine (suc i); one_zero = λ i j b. h.one_zero (suc i) (suc j) (omega arith) }

sort_lone : (ws : List ℕ) → Lone ws → Topped (sort lt (map power_of ws)) (length ws)
unfolding sort Power
sort_lone [] h = zeros 0
sort_lone (w ∷ ws) h = go (power_of_lem w (h.fine 0)) (sort_lone ws (lone_behind w ws h))
  where
    go : Power (power_of w) → Topped (sort lt (map power_of ws)) (length ws) → Topped (insert lt (power_of w) (sort lt (map power_of ws))) (suc (length ws))
    go (inl e) r = rw e (insert_zero r)
    go (inr (a, b)) r = rw (sort_zeros ws others, insert_above (length ws) (power_of w) a) (topped (length ws) (power_of w) b)
      where
        others : (i : ℕ) → at ws i ≡ 0
        others i = pick (h.one_zero 0 (suc i) (omega arith))
          where
            pick : (w ≡ 0) ⊎ (at ws i ≡ 0) → at ws i ≡ 0
            pick (inl e) = absurd (false≢true (sym zero_least ∙ ap (lt zero_f) (sym (ap power_of e ∙ zero_power)) ∙ a))
            pick (inr e) = e

-- ---- the reference

take_zeros : (m n : ℕ) → m ≤ n → take m (replicate n zero_f) ≡ replicate m zero_f
take_zeros zero n h = refl
take_zeros (suc m) zero h = absurd (omega arith)
take_zeros (suc m) (suc n) h = ap (λ (l : List Float). zero_f ∷ l) (take_zeros m n (omega arith))

kept_zeros : (t : ℕ) {l : List Float} {n : ℕ} → 0 < t → Topped l n → take (n - t) l ≡ replicate (n - t) zero_f
kept_zeros t h (zeros n) = take_zeros (n - t) n (omega arith)
kept_zeros t h (topped n p b) =
    let q = length-replicate n zero_f in
    take-append-le (suc n - t) (replicate n zero_f) (p ∷ []) (omega arith) ∙ take_zeros (suc n - t) n (omega arith)

none : add binary64 zero_f zero_f ≡ zero_f
unfolding floats
none = refl

sum_zeros : (n : ℕ) → foldl (add binary64) zero_f (replicate n zero_f) ≡ zero_f
sum_zeros zero = refl
sum_zeros (suc n) = ap (λ (x : Float). foldl (add binary64) x (replicate n zero_f)) none ∙ sum_zeros n

-- a quotient of 0 is not above 0
not_above : (x : Float) → lt zero_f (div binary64 zero_f x) ≡ false
unfolding lt div of_bits
not_above nan = refl
not_above (inf true) = refl
not_above (inf false) = refl
not_above (fin t n d) = go (eqb n 0) refl
  where
    small : (y : Float) → Within y 0 1 → lt (fin false 0 (pos 0)) y ≡ false
    small nan w = refl
    small (inf s) w = absurd w
    small (fin true m e) w = refl
    small (fin false m e) w = le-ltb (0 * 1 * down e) (m * up e * 1) (omega arith)

    go : (b : Bool) → eqb n 0 ≡ b → lt (fin false 0 (pos 0)) (cond b nan (round binary64 (unlike false t) (0 * 1 * down d) (n * up d * 1))) ≡ false
    go true e = refl
    go false e =
        let some = eqb-false n 0 e in
        let D : 0 < n * up d = mul-pos (omega arith) (up_pos d) in
        small (round binary64 (unlike false t) (0 * 1 * down d) (n * up d * 1))
        (round_within binary64 (unlike false t) (0 * 1 * down d) (n * up d * 1) 0 1 (omega arith) (lit< tt) (whole_value binary64 0 (lit< tt)) (omega arith))

reference_zero : (s : Setting) → 0 < s.trim → (ws : List ℕ) → Lone ws → lt zero_f (reference s (map power_of ws)) ≡ false
unfolding reference
reference_zero s trims ws h =
    let sorted = sort lt (map power_of ws) in
    let rest = take (length (map power_of ws) - s.trim) sorted in
    let n = length-map power_of ws in
    let kept : rest ≡ replicate (length ws - s.trim) zero_f = ap (λ (k : ℕ). take (k - s.trim) sorted) n ∙ kept_zeros s.trim trims (sort_lone ws h) in
    let sum : foldl (add binary64) zero_f rest ≡ zero_f = ap (foldl (add binary64) zero_f) kept ∙ sum_zeros (length ws - s.trim) in
    ap (λ (x : Float). lt zero_f (div binary64 x (of_int binary64 (pos (length rest))))) sum ∙ not_above (of_int binary64 (pos (length rest)))

-- ---- the window

module _ (s : Setting) (trims : 0 < s.trim) (xs : List ℕ) (h : Lone xs) where
  cut : (a b i : ℕ) → (at (drop a (take b xs)) i ≡ at xs (a + i)) ⊎ (at (drop a (take b xs)) i ≡ 0)
  cut a b i = go (dec_lt (a + i) b)
    where
      go : Dec (a + i < b) → (at (drop a (take b xs)) i ≡ at xs (a + i)) ⊎ (at (drop a (take b xs)) i ≡ 0)
      go (yes q) = inl (get_or-drop a (take b xs) i 0 ∙ get_or-take b xs (a + i) 0 q)
      go (no q) = let l = length-take b xs in inr (get_or-drop a (take b xs) i 0 ∙ get_or-eq_default (take b xs) 0 (omega arith))

  cut_lone : (a b : ℕ) → Lone (drop a (take b xs))
  cut_lone a b = record { fine = λ i. usable_by i (cut a b i); one_zero = λ i j q. zero_by i j q (cut a b i) (cut a b j) }
    where
      ws : List ℕ
      ws = drop a (take b xs)

      usable_by : (i : ℕ) → (at ws i ≡ at xs (a + i)) ⊎ (at ws i ≡ 0) → usable (at ws i) ≡ true
      usable_by i (inl e) = ap usable e ∙ h.fine (a + i)
      usable_by i (inr e) = ap usable e ∙ zero_usable

      zero_by : (i j : ℕ) → i < j → (at ws i ≡ at xs (a + i)) ⊎ (at ws i ≡ 0) → (at ws j ≡ at xs (a + j)) ⊎ (at ws j ≡ 0) → (at ws i ≡ 0) ⊎ (at ws j ≡ 0)
      zero_by i j q (inr e) f = inl e
      zero_by i j q (inl e) (inr f) = inr f
      zero_by i j q (inl e) (inl f) = go (h.one_zero (a + i) (a + j) (omega arith))
        where
          go : (at xs (a + i) ≡ 0) ⊎ (at xs (a + j) ≡ 0) → (at ws i ≡ 0) ⊎ (at ws j ≡ 0)
          go (inl g) = inl (e ∙ g)
          go (inr g) = inr (f ∙ g)

  none_flagged : (j : ℕ) → flagged s xs j ≡ false
  unfolding flagged stands_out
  none_flagged j = rw (reference_zero s trims (drop (j - s.half) (take (j + s.half + 1) xs)) (cut_lone (j - s.half) (j + s.half + 1)))

-- every sample is 0 but number k
all_but_one : (xs : List ℕ) (k : ℕ) → usable (at xs k) ≡ true → ((i : ℕ) → i ≢ k → at xs i ≡ 0) → Lone xs
all_but_one xs k u others = record { fine = λ i. fine_by i (ℕ_discrete i k); one_zero = λ i j h. zero_by i j h (ℕ_discrete i k) }
  where
    fine_by : (i : ℕ) → Dec (i ≡ k) → usable (at xs i) ≡ true
    fine_by i (yes e) = ap (λ (n : ℕ). usable (at xs n)) e ∙ u
    fine_by i (no n) = ap usable (others i n) ∙ zero_usable

    zero_by : (i j : ℕ) → i < j → Dec (i ≡ k) → (at xs i ≡ 0) ⊎ (at xs j ≡ 0)
    zero_by i j h (yes e) = inr (others j (λ f. omega arith))
    zero_by i j h (no n) = inl (others i n)

pub lone_unflagged : (s : Setting) → 0 < s.trim → (xs : List ℕ) (k : ℕ) → usable (at xs k) ≡ true → ((i : ℕ) → i ≢ k → at xs i ≡ 0)
    → (j : ℕ) → flagged s xs j ≡ false
lone_unflagged s trims xs k u others = none_flagged s trims xs (all_but_one xs k u others)
