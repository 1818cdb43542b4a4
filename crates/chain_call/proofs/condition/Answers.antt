-- `chain_call::condition`: refused unread, or for a sample, or accepted. Assumes nothing.
use mathlib.Core.Path.{refl, sym, ap, ◌∙◌}
use Rattle.rules.specs.Answers.{accepted}
use Rattle.std.proofs.lemmas.Result.{err_from_is_err_and}
use Rattle.chain.specs.Calls.{Outcome}
use Rattle.chain.proofs.laws.CallTests.{unread_none, unread_some, passes, unread_declined, read_declined, read_accepted}
use Rattle.chain_call.proofs.condition.Goals as goal

pub returns-in_err-refusal : goal.returns-in_err-refusal
returns-in_err-refusal c =
    let a = c.args in
    let h = c.in_err-refusal.ensures in
    let d = unread_declined a.state.now a.samples.now a.spans.now a.repairs.now _ refl (unread_some _ _ h) in
    let p = err_from_is_err_and c.from_residual.result c.from_residual.ensures.1 in
    record { answer = rw (p.1, p.2) (h ∙ d.0); chain = d.1.0; written = d.1.1 }

pub unusable-requires : goal.unusable-requires
unusable-requires c = (passes _ _ _ _ (unread_none _ c.in_ok-refusal.ensures)).held_in

pub returns-in_err-unusable : goal.returns-in_err-unusable
returns-in_err-unusable c =
    let a = c.args in
    let d = read_declined a.state.now a.samples.now a.spans.now a.repairs.now (unread_none _ c.in_ok-refusal.ensures) _ c.in_err-unusable.ensures in
    let p = err_from_is_err_and c.from_residual-in_err-unusable.result c.from_residual-in_err-unusable.ensures.1 in
    record { answer = rw (p.1, p.2) d.0; chain = d.1.0; written = d.1.1 }

pub accept-requires : goal.accept-requires
accept-requires c = unread_none _ c.in_ok-refusal.ensures

pub returns : goal.returns
returns c =
    let a = c.args in
    let r = c.accept.ensures in
    let e = read_accepted a.state.now a.samples.now a.spans.now a.repairs.now (unread_none _ c.in_ok-refusal.ensures) c.in_ok-unusable.ensures in
    record {
      answer = ap accepted r.ready ∙ sym (ap (λ (o : Outcome). o.said) e);
      chain = r.chain ∙ sym (ap (λ (o : Outcome). o.machine) e);
      written = r.written ∙ sym (ap (λ (o : Outcome). o.samples) e);
    }
