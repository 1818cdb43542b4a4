-- `chain_config::settings_fit` answers by the number of `setting_refusal`. Assumes nothing.
use mathlib.Core.Path.{refl, sym, ◌∙◌}
use mathlib.Core.Bool.{true, false}
use borrow.Author.Tests.{lt-ltb, le-ltb, eq-eqb, ne_eqb}
use Rattle.chain_config.proofs.laws.ConfigLaws.{setting_by}
use Rattle.chain_config.proofs.settings_fit.Goals as goal
use Rattle.chain_config.proofs.settings_fit.Goals.{
  then-spans-eq0-via-then-spans-eq0,
  then-spans-eq0-via-else-spans-eq0+then-spans-gt-SPAN_LIMIT,
  then-spans-eq0-via-else-spans-eq0+else-spans-gt-SPAN_LIMIT+then-repairs-eq0,
  then-spans-eq0-via-else-spans-eq0+else-spans-gt-SPAN_LIMIT+else-repairs-eq0+then-repairs-gt-REPAIR_LIMIT,
}

pub returns-then-not-rate_fits : goal.returns-then-not-rate_fits
returns-then-not-rate_fits c = setting_by _ _ _ _ false _ _ _ _ _ (sym c.rate_fits.ensures ∙ c.if-not-rate_fits.true) refl refl refl refl refl

pub returns-then-n-gt-SIZE_LIMIT : goal.returns-then-n-gt-SIZE_LIMIT
returns-then-n-gt-SIZE_LIMIT c =
    setting_by _ _ _ _ true true _ _ _ _ (sym c.rate_fits.ensures ∙ c.if-not-rate_fits.false) (lt-ltb _ _ c.if-n-gt-SIZE_LIMIT.true) refl refl refl refl

pub returns-then-spans-eq0 : goal.returns-then-spans-eq0
returns-then-spans-eq0 c =
    let rate = sym c.rate_fits.ensures ∙ c.if-not-rate_fits.false in
    let size = le-ltb _ _ c.if-n-gt-SIZE_LIMIT.false in
    elim c.then-spans-eq0.branch [
      | then-spans-eq0-via-then-spans-eq0 w ↦ setting_by _ _ _ _ true false true _ _ _ rate size (eq-eqb _ _ w.if-spans-eq0.true) refl refl refl
      | then-spans-eq0-via-else-spans-eq0+then-spans-gt-SPAN_LIMIT w ↦
          setting_by _ _ _ _ true false false true _ _ rate size (ne_eqb _ _ w.if-spans-eq0.false) (lt-ltb _ _ w.if-spans-gt-SPAN_LIMIT.true) refl refl
      | then-spans-eq0-via-else-spans-eq0+else-spans-gt-SPAN_LIMIT+then-repairs-eq0 w ↦
          setting_by _ _ _ _ true false false false true _ rate size (ne_eqb _ _ w.if-spans-eq0.false) (le-ltb _ _ w.if-spans-gt-SPAN_LIMIT.false)
          (eq-eqb _ _ w.if-repairs-eq0.true) refl
      | then-spans-eq0-via-else-spans-eq0+else-spans-gt-SPAN_LIMIT+else-repairs-eq0+then-repairs-gt-REPAIR_LIMIT w ↦
          setting_by _ _ _ _ true false false false false true rate size (ne_eqb _ _ w.if-spans-eq0.false) (le-ltb _ _ w.if-spans-gt-SPAN_LIMIT.false)
          (ne_eqb _ _ w.if-repairs-eq0.false) (lt-ltb _ _ w.if-repairs-gt-REPAIR_LIMIT.true)
    ]

pub returns : goal.returns
returns c =
    setting_by _ _ _ _ true false false false false false
    (sym c.rate_fits.ensures ∙ c.if-not-rate_fits.false)
    (le-ltb _ _ c.if-n-gt-SIZE_LIMIT.false)
    (ne_eqb _ _ c.if-spans-eq0.false)
    (le-ltb _ _ c.if-spans-gt-SPAN_LIMIT.false)
    (ne_eqb _ _ c.if-repairs-eq0.false)
    (le-ltb _ _ c.if-repairs-gt-REPAIR_LIMIT.false)
