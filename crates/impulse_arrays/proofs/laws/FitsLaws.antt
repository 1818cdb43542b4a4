-- What arrays that fit keep to. Assumes nothing.
use Rattle.std.specs.Prelude.{◌≡◌, true, List, ℕ, Float}
use Rattle.rules.proofs.laws.TestLaws.{both}
use Rattle.impulse_arrays.specs.Fits.{window_held, pending_held, powers_fit, samples_fit, arrays_fit}

pub record ArraysFit (received : ℕ) (window : List Float) (pending : List ℕ) : Type 0 where
  pub powers : powers_fit (window_held received) window ≡ true
  pub samples : samples_fit (pending_held received) pending ≡ true

pub arrays_fit_lem : (received : ℕ) (window : List Float) (pending : List ℕ) → arrays_fit received window pending ≡ true → ArraysFit received window pending
unfolding arrays_fit
arrays_fit_lem received window pending e =
    let p = both (powers_fit (window_held received) window) (samples_fit (pending_held received) pending) e in
    record { powers = p.0; samples = p.1 }
