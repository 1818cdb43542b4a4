-- `chain_state::settings_fit` is `settings_fit`. Assumes nothing.
use mathlib.Core.Path.{◌≡◌, refl, sym, ap, ◌∙◌}
use mathlib.Core.Bool.{Bool, true, false}
use Prim.Native.Nat.{ℕ}
use lib.Dec.{eqb}
use Rattle.rules.specs.Impulse.{block_length}
use Rattle.chain_config.specs.Config.{setting_refusal}
use Rattle.chain_state.specs.Fits.{settings_fit}
use Rattle.chain_config.proofs.Answers.{two}
use Rattle.chain_config.proofs.laws.ConfigLaws.{is_ok_by_number}
use Rattle.chain_state.proofs.settings_fit.Goals as goal
use Rattle.chain_state.proofs.settings_fit.Goals.{After-is_ok}

-- whether the settings are fit, by the answer t
fitting : (c : After-is_ok) (t : Bool) → c.is_ok.result ≡ t → let s = c.args.s in
    eqb (setting_refusal s.fs s.n s.spans s.repairs) 0 ≡ t
fitting c t e =
    ap (λ (k : ℕ). eqb k 0) (sym c.settings_fit.ensures) ∙ sym (is_ok_by_number c.settings_fit.result) ∙ sym c.is_ok.ensures.value ∙ e

pub returns-then-is_ok : goal.returns-then-is_ok
unfolding settings_fit block_length
returns-then-is_ok c =
    let a = c.args in
    two _ _ true _ (fitting (goal.at.returns-then-is_ok c).After-is_ok true c.if-is_ok.true) (sym (ap (eqb a.blocklen) c.round_half_away.ensures))

pub returns-else-is_ok : goal.returns-else-is_ok
unfolding settings_fit
returns-else-is_ok c = c.if-is_ok.false ∙ two _ _ false _ (fitting (goal.at.returns-else-is_ok c).After-is_ok false c.if-is_ok.false) refl
