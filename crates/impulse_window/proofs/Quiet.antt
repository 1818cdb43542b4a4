-- A power that is at most 144 times a 32nd of the greatest kept one is not flagged: by monotone rounding alone the mean is at least that 32nd. Assumes nothing.
use mathlib.Core.Path.{◌≡◌, refl, sym, ap, ◌∙◌, subst}
use mathlib.Core.Bool.{Bool, true, false, cond, ◌&&◌, ◌||◌}
use mathlib.Core.List.{List, [], ◌∷◌, ◌++◌, foldl}
use Prim.Native.Nat.{ℕ, zero, suc, ◌+◌, ◌-◌, ◌*◌, ◌≤◌, ◌<◌}
use native.Mathlib.Nat.{le_trans, le_of_eq, mul_assoc, mul_comm, mul_left_comm, mul-mul-mul_comm, add-mul, mul-pos, mul-le-mul, mul-le-mul_right}
use native.Mathlib.Nat.{mul-le-mul_left}
use native.Mathlib.Omega.{arith}
use lib.Dec.{T, ltb, eqb}
use lib.IntN.{ℤ, pos}
use lib.ListN.{length, get_or, take}
use lib.Seq.{take-suc, length-take-le}
use lib.Ieee.{Float, nan, inf, fin, Format, binary32, binary64, up, down, fits, round, sum, add, mul, div, lt, eq, le, of_int, of_bits}
use lib.Ieee.Bits.{is_true}
use lib.Ieee.Fits.{down_pos, round-fits, mul-fits, fits_widens}
use lib.Ieee.Exact.{HasValue}
use lib.Ieee.Scale.{round_same}
use lib.Ieee.Order.{round_mono}
use lib.Ieee.Back.{round_whole}
use borrow.Author.Tests.{ltb-false, le-ltb, ne_eqb}
use Rattle.ieee.specs.Plain.{sign_clear, Plain, key}
use Rattle.ieee.proofs.laws.Order.{lt_key, plain_asym, plain_irrefl, plain_equal, round_clear, add_clear}
use Rattle.rules.specs.Constants.{zero_f, impulse_ratio}
use Rattle.rules.specs.Lists.{All}
use Rattle.rules.specs.Impulse.{stands_out}
use Rattle.impulse_window.specs.Ordered.{mean}
use Rattle.impulse_window.specs.Rising.{NotNegative, Held, Rising, thirty_two}
use Rattle.impulse_window.proofs.Sizes.{abs, clear, none, no_clear}

-- ---- rounding

le_under : (f : Format) (x y : Float) → Plain f x → Plain f y → T (le x y) → lt y x ≡ false
unfolding le
le_under f x y p q t = go (lt x y) refl t
  where
    go : (b : Bool) → lt x y ≡ b → T (b || eq x y) → lt y x ≡ false
    go true e t = plain_asym f x y p q e
    go false e t = subst (λ (z : Float). lt z x ≡ false) (plain_equal f x y p q (is_true (eq x y) t)) (plain_irrefl f x p)

round_under : (f : Format) (a b c d : ℕ) → 0 < b → 0 < d → a * d ≤ c * b → lt (round f false c d) (round f false a b) ≡ false
round_under f a b c d B D h =
    le_under f (round f false a b) (round f false c d) (round_clear f a b, round-fits f false a b) (round_clear f c d, round-fits f false c d)
    (round_mono f a b c d B D h)

-- nothing is above the infinity
top : (y : Float) → T (sign_clear y) → lt (inf false) y ≡ false
unfolding lt
top nan c = refl
top (inf t) c = refl
top (fin t n d) c = refl

-- of finite ones
crossed : (m n : ℕ) (e d : ℤ) → lt (fin false n d) (fin false m e) ≡ false → m * up e * down d ≤ n * up d * down e
unfolding lt
crossed m n e d h = ltb-false (n * up d * down e) (m * up e * down d) h

-- ---- a sum

-- the sign of a zero that is added does nothing
add_abs : (f : Format) (s x : Float) → T (sign_clear s) → NotNegative x → add f s x ≡ add f s (abs x)
unfolding add sum
add_abs f nan x c n = absurd c
add_abs f (inf true) x c n = absurd c
add_abs f (inf false) nan c n = refl
add_abs f (inf false) (inf true) c n = absurd n
add_abs f (inf false) (inf false) c n = refl
add_abs f (inf false) (fin t k d) c n = refl
add_abs f (fin true m e) x c n = absurd c
add_abs f (fin false m e) nan c n = refl
add_abs f (fin false m e) (inf true) c n = absurd n
add_abs f (fin false m e) (inf false) c n = refl
add_abs f (fin false m e) (fin false k d) c n = refl
add_abs f (fin false m e) (fin true k d) c n = go (m * up e * down d) (k * up d * down e) (down e * down d) (none k (up d) (down e) n)
  where
    go : (a b c : ℕ) → b ≡ 0 → cond (ltb a b) (round f true (b - a) c) (round f false (a - b) c) ≡ round f false (a + b) c
    go a b c z =
        let t : a - b ≡ a + b = omega arith in
        ap (λ (w : Bool). cond w (round f true (b - a) c) (round f false (a - b) c)) (le-ltb a b (omega arith)) ∙ ap (λ (w : ℕ). round f false w c) t

bare : (x : Float) → NotNegative x → T (sign_clear (abs x))
bare nan n = n
bare (inf s) n = tt
bare (fin s m e) n = tt

sum_clear : (f : Format) (s x : Float) → T (sign_clear s) → NotNegative x → T (sign_clear (add f s x))
sum_clear f s x c n = subst (λ (y : Float). T (sign_clear y)) (sym (add_abs f s x c n)) (add_clear f s (abs x) c (bare x n))

-- over a common denominator
both : (a a' b e e' d : ℕ) → a * e' ≤ a' * e → (a * d + b * e) * (e' * d) ≤ (a' * d + b * e') * (e * d)
both a a' b e e' d h =
    let p : (a * d + b * e) * (e' * d) ≡ a * d * (e' * d) + b * e * (e' * d) = add-mul (a * d) (b * e) (e' * d) in
    let q : (a' * d + b * e') * (e * d) ≡ a' * d * (e * d) + b * e' * (e * d) = add-mul (a' * d) (b * e') (e * d) in
    let u : a * d * (e' * d) ≡ a * e' * (d * d) = mul-mul-mul_comm a d e' d in
    let v : a' * d * (e * d) ≡ a' * e * (d * d) = mul-mul-mul_comm a' d e d in
    let w : b * e * (e' * d) ≡ b * e' * (e * d) = mul-mul-mul_comm b e e' d in
    let k = mul-le-mul_right (d * d) h in
    omega arith

add_clear_under : (f : Format) (s t x : Float) → T (sign_clear s) → T (sign_clear t) → T (sign_clear x) → lt t s ≡ false → lt (add f t x) (add f s x) ≡ false
unfolding add sum lt
add_clear_under f s nan x c g n h = absurd g
add_clear_under f s (inf true) x c g n h = absurd g
add_clear_under f s (fin true m e) x c g n h = absurd g
add_clear_under f nan (fin false m e) x c g n h = absurd c
add_clear_under f (inf true) (fin false m e) x c g n h = absurd c
add_clear_under f (inf false) (fin false m e) x c g n h = absurd (subst T h tt)
add_clear_under f (fin true k d) (fin false m e) x c g n h = absurd c
add_clear_under f s (inf false) nan c g n h = absurd n
add_clear_under f s (inf false) (inf true) c g n h = absurd n
add_clear_under f s (inf false) (inf false) c g n h = top (add f s (inf false)) (add_clear f s (inf false) c tt)
add_clear_under f s (inf false) (fin t k d) c g n h = top (add f s (fin t k d)) (add_clear f s (fin t k d) c n)
add_clear_under f (fin false k d) (fin false m e) nan c g n h = absurd n
add_clear_under f (fin false k d) (fin false m e) (inf true) c g n h = absurd n
add_clear_under f (fin false k d) (fin false m e) (inf false) c g n h = refl
add_clear_under f (fin false k d) (fin false m e) (fin true j i) c g n h = absurd n
add_clear_under f (fin false k d) (fin false m e) (fin false j i) c g n h =
    round_under f (k * up d * down i + j * up i * down d) (down d * down i) (m * up e * down i + j * up i * down e) (down e * down i)
    (mul-pos (down_pos d) (down_pos i)) (mul-pos (down_pos e) (down_pos i))
    (both (k * up d) (m * up e) (j * up i) (down d) (down e) (down i) (crossed k m d e h))

add_under : (f : Format) (s t x : Float) → T (sign_clear s) → T (sign_clear t) → NotNegative x → lt t s ≡ false → lt (add f t x) (add f s x) ≡ false
add_under f s t x c g n h = rw (add_abs f s x c n, add_abs f t x g n) (add_clear_under f s t (abs x) c g (bare x n) h)

fold_clear : (f : Format) (s : Float) (l : List Float) → T (sign_clear s) → All NotNegative l → T (sign_clear (foldl (add f) s l))
fold_clear f s [] c n = c
fold_clear f s (x ∷ l) c n = fold_clear f (add f s x) l (sum_clear f s x c n.0) n.1

-- ---- a quotient by a whole number, and a product with one

-- c is k
module _ (f : Format) (c : Float) (k : ℕ) (K : 0 < k) (v : HasValue c false k 1) where
  scaled_down : (M D E W : ℕ) → W * 1 ≡ k * D → M * D * (E * k) ≡ M * (W * E)
  scaled_down M D E W h = let w : W ≡ k * D = omega arith in rw w (simp (mul_assoc, mul_comm, mul_left_comm))

  scaled_up : (M D E W : ℕ) → W * 1 ≡ k * D → W * M * E ≡ k * M * (D * E)
  scaled_up M D E W h = let w : W ≡ k * D = omega arith in rw w (simp (mul_assoc, mul_comm, mul_left_comm))

  no_zero : (n u d : ℕ) → 0 < d → n * u * 1 ≡ k * d → eqb n 0 ≡ false
  no_zero n u d D h = ne_eqb n 0 (λ z. let g = mul-pos K D in let w = none n u 1 z in omega arith)

  above_zero : (W D E : ℕ) → 0 < D → 0 < E → W * 1 ≡ k * D → 0 < W * E
  above_zero W D E d e h = let g = mul-pos K d in mul-pos (let q : 0 < W = omega arith in q) e

  div_inf : div f (inf false) c ≡ inf false
  unfolding div
  div_inf = go c v
    where
      go : (c : Float) → HasValue c false k 1 → div f (inf false) c ≡ inf false
      go nan v = absurd v
      go (inf t) v = absurd v
      go (fin true n d) v = absurd (subst T v.0 tt)
      go (fin false n d) v = refl

  div_whole : (m : ℕ) (e : ℤ) → div f (fin false m e) c ≡ round f false (m * up e) (down e * k)
  unfolding div
  div_whole m e = go c v
    where
      go : (c : Float) → HasValue c false k 1 → div f (fin false m e) c ≡ round f false (m * up e) (down e * k)
      go nan v = absurd v
      go (inf t) v = absurd v
      go (fin true n d) v = absurd (subst T v.0 tt)
      go (fin false n d) v =
          rw (no_zero n (up d) (down d) (down_pos d) v.1)
          (round_same f false (m * up e * down d) (n * up d * down e) (m * up e) (down e * k)
          (above_zero (n * up d) (down d) (down e) (down_pos d) (down_pos e) v.1) (mul-pos (down_pos e) K)
          (scaled_down (m * up e) (down d) (down e) (n * up d) v.1))

  mul_inf : mul f c (inf false) ≡ inf false
  unfolding mul
  mul_inf = go c v
    where
      go : (c : Float) → HasValue c false k 1 → mul f c (inf false) ≡ inf false
      go nan v = absurd v
      go (inf t) v = absurd v
      go (fin true n d) v = absurd (subst T v.0 tt)
      go (fin false n d) v = rw (no_zero n (up d) (down d) (down_pos d) v.1)

  mul_whole : (m : ℕ) (e : ℤ) → mul f c (fin false m e) ≡ round f false (k * (m * up e)) (down e)
  unfolding mul
  mul_whole m e = go c v
    where
      go : (c : Float) → HasValue c false k 1 → mul f c (fin false m e) ≡ round f false (k * (m * up e)) (down e)
      go nan v = absurd v
      go (inf t) v = absurd v
      go (fin true n d) v = absurd (subst T v.0 tt)
      go (fin false n d) v =
          round_same f false (n * up d * (m * up e)) (down d * down e) (k * (m * up e)) (down e)
          (mul-pos (down_pos d) (down_pos e)) (down_pos e) (scaled_up (m * up e) (down d) (down e) (n * up d) v.1)

  div_clear : (s : Float) → T (sign_clear s) → T (sign_clear (div f s c))
  div_clear nan g = absurd g
  div_clear (inf true) g = absurd g
  div_clear (inf false) g = rw div_inf tt
  div_clear (fin true m e) g = absurd g
  div_clear (fin false m e) g = rw (div_whole m e) (round_clear f (m * up e) (down e * k))

  mul_clear : (s : Float) → T (sign_clear s) → T (sign_clear (mul f c s))
  mul_clear nan g = absurd g
  mul_clear (inf true) g = absurd g
  mul_clear (inf false) g = rw mul_inf tt
  mul_clear (fin true m e) g = absurd g
  mul_clear (fin false m e) g = rw (mul_whole m e) (round_clear f (k * (m * up e)) (down e))

-- nothing finite is above the infinity
no_infinity : (m : ℕ) (e : ℤ) → lt (fin false m e) (inf false) ≡ false → ⊥
unfolding lt
no_infinity m e h = subst T h tt

div_under : (f : Format) (s t b c : Float) (j k : ℕ) → T (sign_clear s) → T (sign_clear t) → 0 < k → k ≤ j → HasValue b false j 1 → HasValue c false k 1
    → lt t s ≡ false → lt (div f t c) (div f s b) ≡ false
div_under f s t b c j k p q K h v w g = go s t p q g
  where
    J : 0 < j
    J = omega arith

    go : (s t : Float) → T (sign_clear s) → T (sign_clear t) → lt t s ≡ false → lt (div f t c) (div f s b) ≡ false
    go s nan p q g = absurd q
    go s (inf true) p q g = absurd q
    go s (fin true m e) p q g = absurd q
    go s (inf false) p q g = rw (div_inf f c k K w) (top (div f s b) (div_clear f b j J v s p))
    go nan (fin false m e) p q g = absurd p
    go (inf true) (fin false m e) p q g = absurd p
    go (inf false) (fin false m e) p q g = absurd (no_infinity m e g)
    go (fin true n d) (fin false m e) p q g = absurd p
    go (fin false n d) (fin false m e) p q g =
        let x = crossed n m d e g in
        rw (div_whole f c k K w m e, div_whole f b j J v n d)
        (round_under f (n * up d) (down d * j) (m * up e) (down e * k) (mul-pos (down_pos d) J) (mul-pos (down_pos e) K)
        (le_trans (le_of_eq (sym (mul_assoc (n * up d) (down e) k))) (le_trans (mul-le-mul x h) (le_of_eq (mul_assoc (m * up e) (down d) j)))))

mul_under : (f : Format) (s t c : Float) (k : ℕ) → T (sign_clear s) → T (sign_clear t) → 0 < k → HasValue c false k 1
    → lt t s ≡ false → lt (mul f c t) (mul f c s) ≡ false
mul_under f s t c k p q K w g = go s t p q g
  where
    go : (s t : Float) → T (sign_clear s) → T (sign_clear t) → lt t s ≡ false → lt (mul f c t) (mul f c s) ≡ false
    go s nan p q g = absurd q
    go s (inf true) p q g = absurd q
    go s (fin true m e) p q g = absurd q
    go s (inf false) p q g = rw (mul_inf f c k K w) (top (mul f c s) (mul_clear f c k K w s p))
    go nan (fin false m e) p q g = absurd p
    go (inf true) (fin false m e) p q g = absurd p
    go (inf false) (fin false m e) p q g = absurd (no_infinity m e g)
    go (fin true n d) (fin false m e) p q g = absurd p
    go (fin false n d) (fin false m e) p q g =
        let x = crossed n m d e g in
        rw (mul_whole f c k K w m e, mul_whole f c k K w n d)
        (round_under f (k * (n * up d)) (down d) (k * (m * up e)) (down e) (down_pos d) (down_pos e)
        (le_trans (le_of_eq (mul_assoc k (n * up d) (down e))) (le_trans (mul-le-mul_left k x) (le_of_eq (sym (mul_assoc k (m * up e) (down d)))))))

-- ---- the flag

-- what is at most x is not above what x is not above
never_above : (f : Format) (p x y : Float) → T (fits f p) → Plain f x → Plain f y → le p x ≡ true → lt y x ≡ false → lt y p ≡ false
never_above f p x y h g k l e = go (sign_clear p) refl
  where
    go : (t : Bool) → sign_clear p ≡ t → lt y p ≡ false
    go false c = no_clear y p (clear y (is_true (sign_clear y) k.0)) c
    go true c =
        let q : Plain f p = (subst T (sym c) tt, h) in
        let u = ltb-false (key f x) (key f p) (sym (lt_key f x p g q) ∙ le_under f p x q g (subst T (sym l) tt)) in
        let v = ltb-false (key f y) (key f x) (sym (lt_key f y x k g) ∙ e) in
        lt_key f y p k q ∙ le-ltb (key f y) (key f p) (omega arith)

rising_clear : (n : ℕ) (l : List Float) (k : ℕ) → Rising n l → All NotNegative (take k l)
rising_clear n l zero r = tt
rising_clear n [] (suc k) r = tt
rising_clear n (a ∷ l) (suc k) r = (r.0, rising_clear (key binary32 a) l k r.3)

rising_at : (n : ℕ) (l : List Float) (k : ℕ) (d : Float) → Rising n l → k < length l → NotNegative (get_or l k d)
rising_at n [] k d r h = absurd (omega arith)
rising_at n (a ∷ l) zero d r h = r.0
rising_at n (a ∷ l) (suc k) d r h = rising_at (key binary32 a) l k d r.3 (omega arith)

pub fold_snoc : (z : Float) (l : List Float) (x : Float) → foldl (add binary64) z (l ++ (x ∷ [])) ≡ add binary64 (foldl (add binary64) z l) x
fold_snoc z [] x = refl
fold_snoc z (y ∷ l) x = fold_snoc (add binary64 z y) l x

zero_clear : T (sign_clear zero_f)
unfolding of_bits
zero_clear = tt

-- nothing without a sign bit is below 0
zero_least : (s : Float) → T (sign_clear s) → lt s zero_f ≡ false
unfolding of_bits lt
zero_least nan c = refl
zero_least (inf true) c = absurd c
zero_least (inf false) c = refl
zero_least (fin true m e) c = absurd c
zero_least (fin false m e) c = le-ltb (m * up e * 1) (0 * 1 * down e) (let z = none 0 1 (down e) refl in omega arith)

ratio : HasValue impulse_ratio false 144 1
unfolding of_bits
ratio = (refl, refl)

parts : HasValue thirty_two false 32 1
unfolding of_bits
parts = (refl, refl)

whole : (k : ℕ) → k ≤ 32 → HasValue (of_int binary64 (pos k)) false k 1
unfolding of_int
whole k h = round_whole binary64 false k (omega arith)

unheard : (t : Bool) → (t && false) ≡ false
unheard true = refl
unheard false = refl

-- the last of the k + 1 powers that are kept is the greatest
pub quiet : (l : List Float) (k : ℕ) (p : Float) → Rising 0 l → k < length l → k < 32 → Held p
    → le p (mul binary64 impulse_ratio (div binary64 (add binary64 zero_f (get_or l k nan)) thirty_two)) ≡ true → stands_out (mean (take (suc k) l)) p ≡ false
unfolding mean stands_out
quiet l k p r h w g e =
    let f = binary64 in
    let x = get_or l k nan in
    let n = rising_at 0 l k nan r h in
    let S = foldl (add f) zero_f (take k l) in
    let c = fold_clear f zero_f (take k l) zero_clear (rising_clear 0 l k r) in
    let count = of_int f (pos (suc k)) in
    let one = sum_clear f zero_f x zero_clear n in
    let all = sum_clear f S x c n in
    let s = add_under f zero_f S x zero_clear c n (zero_least S c) in
    let d = div_under f (add f zero_f x) (add f S x) thirty_two count 32 (suc k) one all (omega arith) w parts (whole (suc k) w) s in
    let q = div_clear f thirty_two 32 (omega arith) parts (add f zero_f x) one in
    let t = div_clear f count (suc k) (omega arith) (whole (suc k) w) (add f S x) all in
    let m = mul_under f (div f (add f zero_f x) thirty_two) (div f (add f S x) count) impulse_ratio 144 q t (omega arith) ratio d in
    let u : lt (mul f impulse_ratio (div f (add f S x) count)) p ≡ false =
    never_above f p (mul f impulse_ratio (div f (add f zero_f x) thirty_two)) (mul f impulse_ratio (div f (add f S x) count)) (fits_widens p g)
    (mul_clear f impulse_ratio 144 (omega arith) ratio (div f (add f zero_f x) thirty_two) q, mul-fits f impulse_ratio (div f (add f zero_f x) thirty_two))
    (mul_clear f impulse_ratio 144 (omega arith) ratio (div f (add f S x) count) t, mul-fits f impulse_ratio (div f (add f S x) count))
    e m in
    rw (length-take-le (suc k) l h, take-suc l k nan h, fold_snoc zero_f (take k l) x, u) (unheard (lt zero_f (div f (add f S x) count)))
