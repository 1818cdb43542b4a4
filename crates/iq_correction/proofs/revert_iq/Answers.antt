-- `iq_correction::revert_iq` refuses in the order 10, 7, and else undoes all samples. Assumes nothing.
use Rattle.std.proofs.Common.{true, false, sym, refl, ap, ◌∙◌}
use Rattle.std.proofs.lemmas.Result.{err_from_is_err_and}
use Rattle.complex.specs.View.{view64}
use Rattle.refusal.specs.Words.{words_of}
use Rattle.amplitude_limit.specs.Limit.{returned}
use Rattle.amplitude_limit.proofs.laws.LimitLaws.{checked_err, checked_ok}
use Rattle.iq_correction.proofs.laws.UndoLaws.{undo_by}
use Rattle.iq_correction.proofs.revert_iq.Goals as goal

pub returns-then-not-accepted : goal.returns-then-not-accepted
unfolding returned
returns-then-not-accepted c =
    let a = c.args in
    let u = undo_by (view64 a.rho) a.samples.now false _ (sym c.accepted.ensures ∙ c.if-not-accepted.true) refl in
    record { answer = u.0; written = u.1 }

pub returns-in_err-check : goal.returns-in_err-check
unfolding returned
returns-in_err-check c =
    let a = c.args in
    let p = err_from_is_err_and c.from_residual.result c.from_residual.ensures.1 in
    let e = checked_err a.samples.now _ c.in_err-check.ensures in
    let u = undo_by (view64 a.rho) a.samples.now true true (sym c.accepted.ensures ∙ c.if-not-accepted.false) e.0 in
    record { answer = rw (p.1, p.2) (ap words_of e.1 ∙ u.0); written = u.1 }

pub returns : goal.returns
unfolding returned
returns c =
    let a = c.args in
    let u = undo_by (view64 a.rho) a.samples.now true false (sym c.accepted.ensures ∙ c.if-not-accepted.false) (checked_ok _ c.in_ok-check.ensures) in
    record { answer = u.0; written = c.uncorrect_all.ensures ∙ u.1 }
