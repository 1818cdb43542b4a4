-- `chain_hop::mark_window`: a mark where the window is suspected. Assumes nothing.
use mathlib.Core.Path.{sym, ap, ◌∙◌}
use mathlib.Core.Bool.{Bool, cond}
use mathlib.Core.List.{[], ◌∷◌, foldl}
use Prim.Native.Nat.{◌+◌, ◌-◌, ◌≤◌, ◌^◌}
use native.Mathlib.Omega.{arith}
use borrow.Author.Tests.{not-true, not-false}
use Rattle.rules.specs.Log.{span_of}
use Rattle.chain_hop.specs.Hops.{uncertain}
use Rattle.chain_hop.proofs.laws.HopLaws.{mark_ready}
use Rattle.chain_hop.proofs.mark_window.Goals as goal

pub returns-then-not-evidence : goal.returns-then-not-evidence
returns-then-not-evidence c =
    let a = c.args in
    let e = a.evidence in
    sym (ap (λ (t : Bool). foldl (uncertain a.capacity) (record { log = a.log.now; spans = a.spans.now })
    (cond t (span_of e.start (e.end - e.start) ∷ []) [])) (not-true e.suspected c.if-not-evidence.true))

pub mark-requires : goal.mark-requires
mark-requires c =
    let a = c.args in
    let e = a.evidence in
    let h : e.start + (e.end - e.start) ≤ 2 ^ 52 = omega (arith, c.requires.window.0, c.requires.window.1) in
    mark_ready a.capacity (record { log = a.log.now; spans = a.spans.now }) 11 e.start (e.end - e.start) c.requires.log_value.0 c.requires.log_value.1 (omega arith) h

pub returns : goal.returns
returns c =
    let a = c.args in
    let e = a.evidence in
    c.mark.ensures
    ∙ sym (ap
    (λ (t : Bool). foldl (uncertain a.capacity) (record { log = a.log.now; spans = a.spans.now })
    (cond t (span_of e.start (e.end - e.start) ∷ []) [])) (not-false e.suspected c.if-not-evidence.false))
