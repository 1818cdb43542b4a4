-- `chain_state::InputConditioner::impulse_fits` is `suppressor_fits`. Assumes nothing.
use mathlib.Core.Path.{◌≡◌, refl, ◌∙◌}
use mathlib.Core.Bool.{Bool, true, false}
use Prim.Native.Nat.{ℕ}
use Rattle.stage_log.specs.Check.{all_to}
use Rattle.impulse.specs.declared.ImpulseSuppressor.{ImpulseSuppressor}
use Rattle.impulse_arrays.specs.Fits.{arrays_fit}
use Rattle.chain_state.specs.Fits.{suppressor_fits}
use Rattle.chain_state.proofs.InputConditioner.impulse_fits.Goals as goal

-- no sample has come, and the stage is off
untouched : (m : ImpulseSuppressor) (running : Bool) (seen : ℕ) → (running ≡ false) × (m.gate.received ≡ 0) → true ≡ suppressor_fits m running seen
unfolding suppressor_fits arrays_fit all_to
untouched m running seen e = rw (e.0, e.1) refl

pub returns-then-is_untouched : goal.returns-then-is_untouched
returns-then-is_untouched c =
    let s = c.args.self.now in
    c.if-is_untouched.true ∙ untouched s.suppressor s.settings.impulse s.counts.seen (c.is_untouched.ensures c.if-is_untouched.true)
