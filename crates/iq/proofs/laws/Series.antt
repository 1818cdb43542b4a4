-- One turn of the series, and that it is the sine's and the cosine's. Assumes nothing.
use Rattle.std.specs.Prelude.{◌≡◌, ℕ, zero, suc, ◌+◌, ◌-◌, ◌*◌, ◌<◌, ◌≤◌, refl, Float}
use Rattle.std.proofs.Common.{sym, ap, ◌∙◌, arith}
use Rattle.std.specs.Float.{binary64}
use Rattle.std.specs.Float.Ieee.{sub, mul, div}
use Rattle.rules.specs.Constants.{one}
use Rattle.rules.specs.Iq.{whole_f, sine_series, cosine_series}
use Rattle.iq.specs.Series.{series}

-- the turn k, at the divisor x that is read
pub turn_from : (odd : ℕ) (u : Float) (k : ℕ) (s x : Float) → 1 < k → (let n = 2 * (k - 1) + odd in x ≡ whole_f ((n - 1) * n))
    → series odd u (k - 1 - 1) (sub binary64 one (div binary64 (mul binary64 u s) x)) ≡ series odd u (k - 1) s
unfolding series
turn_from odd u zero s x h e = absurd (omega arith)
turn_from odd u (suc zero) s x h e = absurd (omega arith)
turn_from odd u (suc (suc k)) s x h e =
    let p : suc (suc k) - 1 ≡ suc k = omega arith in
    let q : suc (suc k) - 1 - 1 ≡ k = omega arith in
    ap (λ (m : ℕ). series odd u m (sub binary64 one (div binary64 (mul binary64 u s) x))) q
    ∙ ap (λ (y : Float). series odd u k (sub binary64 one (div binary64 (mul binary64 u s) y)))
    (e ∙ ap (λ (m : ℕ). whole_f ((2 * m + odd - 1) * (2 * m + odd))) p)
    ∙ sym (ap (λ (m : ℕ). series odd u m s) p)

pub series_end : (odd : ℕ) (u : Float) (k : ℕ) (s : Float) → k ≤ 1 → s ≡ series odd u (k - 1) s
unfolding series
series_end odd u zero s h = refl
series_end odd u (suc zero) s h = refl
series_end odd u (suc (suc k)) s h = absurd (omega arith)

by_divisor : Float → Float → ℕ → Float
by_divisor u s d = sub binary64 one (div binary64 (mul binary64 u s) (whole_f d))

pub is_sine : (u : Float) (k : ℕ) (s : Float) → series 1 u k s ≡ sine_series u k s
unfolding series sine_series by_divisor
is_sine u zero s = refl
is_sine u (suc k) s =
    let d : (2 * suc k + 1 - 1) * (2 * suc k + 1) ≡ 2 * suc k * (2 * suc k + 1) = ap (λ (m : ℕ). m * (2 * suc k + 1)) (omega arith) in
    ap (λ (m : ℕ). series 1 u k (by_divisor u s m)) d ∙ is_sine u k _

pub is_cosine : (u : Float) (k : ℕ) (s : Float) → series 0 u k s ≡ cosine_series u k s
unfolding series cosine_series by_divisor
is_cosine u zero s = refl
is_cosine u (suc k) s =
    let n : 2 * suc k + 0 ≡ 2 * suc k = omega arith in
    ap (λ (m : ℕ). series 0 u k (by_divisor u s ((m - 1) * m))) n ∙ is_cosine u k _
