-- `chain_config::ConditioningConfig::fits` answers by the number of `refusal`. Assumes nothing.
use mathlib.Core.Path.{◌≡◌, refl, sym, ap, ◌∙◌}
use mathlib.Core.Bool.{true, false}
use Prim.Native.Nat.{ℕ}
use native.Mathlib.Omega.{arith}
use lib.Dec.{eqb}
use borrow.Author.Tests.{eq-eqb, ne_eqb}
use Rattle.std.proofs.lemmas.Result.{err_from_is_err_and}
use Rattle.chain_config.specs.declared.ConditioningConfig.{ConditioningConfig}
use Rattle.chain_config.specs.Config.{config_of, setting_refusal}
use Rattle.chain_config.proofs.laws.ConfigLaws.{Limits, setting_limits, unfit_setting, refusal_numbered, length_by}
use Rattle.chain_config.proofs.ConditioningConfig.fits.Goals as goal
use Rattle.chain_config.proofs.ConditioningConfig.fits.Goals.{
  In_ok-settings_fit,
  then-repairs-self-via-then-repairs-self,
  then-repairs-self-via-else-repairs-self+then-spans-self,
  then-repairs-self-via-else-repairs-self+else-spans-self+then-words-self,
}

abbrev setting_number_of : ConditioningConfig → ℕ
setting_number_of g = setting_refusal g.fs g.n g.spans g.repairs

pub returns-in_err-settings_fit : goal.returns-in_err-settings_fit
returns-in_err-settings_fit c =
    let a = c.args in
    let said = c.in_err-settings_fit.ensures in
    let p = err_from_is_err_and c.from_residual.result c.from_residual.ensures.1 in
    rw (p.1, p.2)
    (said ∙ unfit_setting (config_of a.self) a.spans a.repairs a.words (ap (λ (k : ℕ). eqb k 0) (sym said) ∙ refusal_numbered c.in_err-settings_fit.field-0.0))

fit : (c : In_ok-settings_fit) → eqb (setting_number_of c.args.self) 0 ≡ true
fit c = ap (λ (k : ℕ). eqb k 0) (sym c.in_ok-settings_fit.ensures)

limits : (c : In_ok-settings_fit) → let a = c.args.self in Limits a.fs a.n a.spans a.repairs
limits c = setting_limits _ _ _ _ (fit c)

pub overflow_mul-self : goal.overflow_mul-self
overflow_mul-self c = let l = (limits (goal.at.overflow_mul-self c).In_ok-settings_fit).few_repairs in omega arith

pub overflow_mul-self-else-repairs-self : goal.overflow_mul-self-else-repairs-self
overflow_mul-self-else-repairs-self c = let l = (limits (goal.at.overflow_mul-self-else-repairs-self c).In_ok-settings_fit).few_spans in omega arith

pub overflow_mul-self-else-spans-self : goal.overflow_mul-self-else-spans-self
overflow_mul-self-else-spans-self c = let l = (limits (goal.at.overflow_mul-self-else-spans-self c).In_ok-settings_fit).size in omega arith

pub returns-then-repairs-self : goal.returns-then-repairs-self
returns-then-repairs-self c =
    let a = c.args in
    let good = fit (goal.at.returns-then-repairs-self c).In_ok-settings_fit in
    elim c.then-repairs-self.branch [
      | then-repairs-self-via-then-repairs-self w ↦
          length_by (config_of a.self) a.spans a.repairs a.words false _ _ good (ne_eqb _ _ w.if-repairs-self.true) refl refl
      | then-repairs-self-via-else-repairs-self+then-spans-self w ↦
          length_by (config_of a.self) a.spans a.repairs a.words true false _ good (eq-eqb _ _ w.if-repairs-self.false) (ne_eqb _ _ w.if-spans-self.true) refl
      | then-repairs-self-via-else-repairs-self+else-spans-self+then-words-self w ↦
          length_by (config_of a.self) a.spans a.repairs a.words true true false good (eq-eqb _ _ w.if-repairs-self.false)
          (eq-eqb _ _ w.if-spans-self.false) (ne_eqb _ _ w.if-words-self.true)
    ]

pub returns : goal.returns
returns c =
    let a = c.args in
    length_by (config_of a.self) a.spans a.repairs a.words true true true (fit (goal.at.returns c).In_ok-settings_fit)
    (eq-eqb _ _ c.if-repairs-self.false) (eq-eqb _ _ c.if-spans-self.false) (eq-eqb _ _ c.if-words-self.false)
