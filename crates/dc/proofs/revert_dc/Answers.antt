-- `dc::revert_dc` refuses in the order 1, 4, 7, and else writes all of out. Assumes nothing.
use Rattle.std.proofs.Common.{true, false, sym, refl, ap, ◌∙◌, eq-eqb, ne_eqb}
use Rattle.std.proofs.lemmas.Result.{err_from_is_err_and}
use Rattle.refusal.specs.Words.{words_of}
use Rattle.amplitude_limit.specs.Limit.{returned}
use Rattle.amplitude_limit.proofs.laws.LimitLaws.{checked_err, checked_ok}
use Rattle.dc.proofs.laws.UndoLaws.{undo_by}
use Rattle.dc.proofs.revert_dc.Goals as goal

pub returns-then-not-rate_fits : goal.returns-then-not-rate_fits
unfolding returned
returns-then-not-rate_fits c =
    let a = c.args in
    let u = undo_by a.fs a.out.now a.y.now false _ _ (sym c.rate_fits.ensures ∙ c.if-not-rate_fits.true) refl refl in
    record { answer = u.0; written = u.1 }

pub returns-then-out-y : goal.returns-then-out-y
unfolding returned
returns-then-out-y c =
    let a = c.args in
    let u = undo_by a.fs a.out.now a.y.now true false _ (sym c.rate_fits.ensures ∙ c.if-not-rate_fits.false) (ne_eqb _ _ c.if-out-y.true) refl in
    record { answer = u.0; written = u.1 }

pub returns-in_err-check : goal.returns-in_err-check
unfolding returned
returns-in_err-check c =
    let a = c.args in
    let p = err_from_is_err_and c.from_residual.result c.from_residual.ensures.1 in
    let e = checked_err a.y.now _ c.in_err-check.ensures in
    let u = undo_by a.fs a.out.now a.y.now true true true (sym c.rate_fits.ensures ∙ c.if-not-rate_fits.false) (eq-eqb _ _ c.if-out-y.false) e.0 in
    record { answer = rw (p.1, p.2) (ap words_of e.1 ∙ u.0); written = u.1 }

pub returns : goal.returns
unfolding returned
returns c =
    let a = c.args in
    let u = undo_by a.fs a.out.now a.y.now true true false (sym c.rate_fits.ensures ∙ c.if-not-rate_fits.false) (eq-eqb _ _ c.if-out-y.false)
    (checked_ok _ c.in_ok-check.ensures) in
    record { answer = u.0; written = c.restore.ensures ∙ u.1 }
