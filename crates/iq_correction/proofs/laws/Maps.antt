-- A map over a slice in place that has come to place k, and stages that write nothing. Assumes nothing.
use Rattle.std.specs.Prelude.{◌≡◌, ℕ, ◌+◌, ◌<◌, ◌≤◌, List, [], ◌∷◌, ◌++◌, map, length, take, drop, set, slice_index, slice_set, refl}
use Rattle.std.proofs.Common.{sym, ap, ◌∙◌, arith, length-set, drop_of_length-le}
use Rattle.amplitude_limit.proofs.laws.Slices.{left, put, behind, whole}
use Rattle.rules.specs.Iq.{Settled, corrected_by}
use Rattle.iq_correction.specs.Groups.{Mapping}

pub mapping_start : (f : ℕ → ℕ) (xs : List ℕ) → Mapping f xs xs 0
mapping_start f xs = record { same = refl; place = omega arith; written = refl }

pub mapping_next : (f : ℕ → ℕ) (xs₀ xs : List ℕ) (k w : ℕ) → k < length xs → w ≡ f (slice_index xs k) → Mapping f xs₀ xs k
    → Mapping f xs₀ (slice_set xs k w) (k + 1)
mapping_next f xs₀ xs k w h e g =
    let ys = set xs k w in
    let s = g.same in
    let rest = behind xs k w in
    record {
      same = length-set xs k w ∙ s;
      place = omega arith;
      written = ap (λ (zs : List ℕ). take (k + 1) ys ++ map f zs) rest
          ∙ put xs (map f (drop (k + 1) xs)) k w h
          ∙ ap (λ (v : ℕ). take k xs ++ (v ∷ map f (drop (k + 1) xs))) e
          ∙ ap (λ (zs : List ℕ). take k xs ++ map f zs) (sym (left xs k h))
          ∙ g.written;
    }

pub mapping_end : (f : ℕ → ℕ) (xs₀ xs : List ℕ) (k : ℕ) → length xs ≤ k → Mapping f xs₀ xs k → xs ≡ map f xs₀
mapping_end f xs₀ xs k h g =
    sym (whole xs k h) ∙ ap (λ (zs : List ℕ). take k xs ++ map f zs) (sym (drop_of_length-le xs h)) ∙ g.written

-- ---- stages that write nothing
pub unchanged : (s : Settled) → ((w : ℕ) → corrected_by s w ≡ w) → (xs : List ℕ) → xs ≡ map (corrected_by s) xs
unchanged s h [] = refl
unchanged s h (x ∷ xs) = λ i. sym (h x) i ∷ unchanged s h xs i
