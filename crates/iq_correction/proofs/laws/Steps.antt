-- A correction and its undo, from the equations of their steps. Assumes nothing.
use Rattle.std.specs.Prelude.{◌≡◌, ℕ, Float}
use Rattle.std.proofs.Math.Path.{ap}
use Rattle.std.proofs.Common.{◌∙◌}
use Rattle.std.specs.Float.Ieee.{binary64}
use Rattle.complex.specs.declared.Complex64.{Complex64}
use Rattle.complex.specs.declared.Single.{Single}
use Rattle.complex.specs.Complex.{Complex, sum, difference, product, conjugate, unscaled, narrowed_parts, word_of, sample_of}
use Rattle.complex.specs.View.{view64, make64, single_of}
use Rattle.rules.specs.Iq.{corrected}
use Rattle.iq_correction.specs.Undo.{uncorrected_by}

module _ (r : Complex) (w : ℕ) {y : Single} {m c t d : Complex64} where
  pub corrected_by_lem : y ≡ single_of (view64 d) → d ≡ make64 (difference binary64 (view64 m) (view64 t)) → t ≡ make64 (product binary64 r (view64 c))
      → c ≡ make64 (conjugate (view64 m)) → m ≡ make64 (sample_of w) → y.word ≡ corrected r w
  unfolding corrected
  corrected_by_lem rounded less times mirrored sampled =
      let t' = times ∙ ap (λ s. make64 (product binary64 r (view64 s))) (mirrored ∙ ap (λ s. make64 (conjugate (view64 s))) sampled) in
      let d' = less ∙ ap (λ s. make64 (difference binary64 (view64 s) (view64 t))) sampled
      ∙ ap (λ s. make64 (difference binary64 (sample_of w) (view64 s))) t' in
      ap (λ s. s.word) rounded ∙ ap (λ s. word_of (narrowed_parts (view64 s))) d'

  pub uncorrected_by_lem : {e : Complex64} (q : Float) → y ≡ single_of (view64 e) → e ≡ make64 (unscaled binary64 (view64 d) q)
      → d ≡ make64 (sum binary64 (view64 m) (view64 t)) → t ≡ make64 (product binary64 r (view64 c)) → c ≡ make64 (conjugate (view64 m))
      → m ≡ make64 (sample_of w) → y.word ≡ uncorrected_by r q w
  unfolding uncorrected_by
  uncorrected_by_lem q rounded divided more times mirrored sampled =
      let y₀ = sample_of w in
      let t' = times ∙ ap (λ s. make64 (product binary64 r (view64 s))) (mirrored ∙ ap (λ s. make64 (conjugate (view64 s))) sampled) in
      let d' = more ∙ ap (λ s. make64 (sum binary64 (view64 s) (view64 t))) sampled ∙ ap (λ s. make64 (sum binary64 y₀ (view64 s))) t' in
      let e' = divided ∙ ap (λ s. make64 (unscaled binary64 (view64 s) q)) d' in
      ap (λ s. s.word) rounded ∙ ap (λ s. word_of (narrowed_parts (view64 s))) e'
