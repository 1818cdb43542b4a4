-- `chain_hop::observe_hop`: refused by 5 or 4, or taken. Assumes nothing.
use mathlib.Core.Path.{◌≡◌, sym, ap, ◌∙◌}
use Rattle.std.proofs.lemmas.Result.{err_from_is_err_and}
use Rattle.chain_hop.specs.Hops.{Hopped, kept, hop_of}
use Rattle.iq_monitor.specs.Observe.{said}
use Rattle.chain_hop.proofs.laws.HopLaws.{hop_taken, hop_refused, none_refused, said_hop_is}
use Rattle.chain_hop.proofs.observe_hop.Goals as goal

pub returns-in_err-hop_refusal : goal.returns-in_err-hop_refusal
returns-in_err-hop_refusal c =
    let a = c.args in
    let p = err_from_is_err_and c.from_residual.result c.from_residual.ensures.1 in
    let e : kept a.state.now a.spans.now a.words.now c.from_residual.result ≡ hop_of a.state.now a.x.now a.start a.spans.now a.words.now =
    rw (p.1, p.2) (hop_refused a.state.now a.x.now a.start a.spans.now a.words.now _ c.in_err-hop_refusal.ensures) in
    record {
      hopped = e;
      said = ap (λ (h : Hopped). said h.answer) e ∙ said_hop_is a.state.now a.x.now a.start a.spans.now a.words.now;
    }

pub take_hop-requires : goal.take_hop-requires
take_hop-requires c = none_refused _ c.in_ok-hop_refusal.ensures

pub returns : goal.returns
returns c =
    let a = c.args in
    let e = c.take_hop.ensures ∙ sym (hop_taken a.state.now a.x.now a.start a.spans.now a.words.now (none_refused _ c.in_ok-hop_refusal.ensures)) in
    record {
      hopped = e;
      said = ap (λ (h : Hopped). said h.answer) e ∙ said_hop_is a.state.now a.x.now a.start a.spans.now a.words.now;
    }
