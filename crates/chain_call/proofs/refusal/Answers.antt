-- `chain_call::refusal` tests the state, the stores and the length of the slice, in document 01's order. Assumes nothing.
use mathlib.Core.Path.{◌≡◌, refl, sym, ap, ◌∙◌}
use mathlib.Core.Bool.{Bool, true, false}
use Prim.Native.Nat.{◌-◌}
use native.Mathlib.Omega.{arith}
use lib.Dec.{ltb}
use borrow.Author.Tests.{eq-eqb, ne_eqb, lt-ltb, le-ltb}
use Rattle.rules.specs.Refusals.{too_many}
use Rattle.chain_state.specs.Fits.{state_fits}
use Rattle.chain_state.proofs.laws.FitsLaws.{Fit, state_fit}
use Rattle.chain.specs.Calls.{unread_refusal, told_unread}
use Rattle.chain.proofs.laws.CallTests.{call_number, unread_by}
use Rattle.chain_call.proofs.refusal.Goals as goal
use Rattle.chain_call.proofs.refusal.Goals.{Else-not-fits, Else-not-ends_fit}

-- the state is fit
fits : (c : Else-not-fits) → state_fits c.args.state.now ≡ true
fits c = sym c.fits.ensures ∙ c.if-not-fits.false

fit : (c : Else-not-fits) → Fit c.args.state.now
fit c = state_fit _ (fits c)

-- so are the stores: the slice's length decides
by_length : (c : Else-not-ends_fit) (h t : Bool)
    → let a = c.args in
    ltb a.len a.state.now.counts.held ≡ h
    → (too_many a.state.now.counts.seen (a.len - a.state.now.counts.held)).holds ≡ t
    → told_unread (call_number true true true true h t false) ≡ told_unread (unread_refusal a.state.now a.len a.spans.now a.repairs.now)
by_length c h t short many =
    let a = c.args in
    sym
    (ap told_unread
    (unread_by a.state.now a.len a.spans.now a.repairs.now true true true true h t
    (sym c.fits.ensures ∙ c.if-not-fits.false) (eq-eqb _ _ c.if-repairs-state.false)
    (eq-eqb _ _ c.if-spans-state.false) (sym c.ends_fit.ensures ∙ c.if-not-ends_fit.false) short many))

pub returns-then-not-fits : goal.returns-then-not-fits
returns-then-not-fits c =
    let a = c.args in
    sym (ap told_unread
    (unread_by a.state.now a.len a.spans.now a.repairs.now false _ _ _ _ _
    (sym c.fits.ensures ∙ c.if-not-fits.true) refl refl refl refl refl))

pub overflow_mul-state : goal.overflow_mul-state
overflow_mul-state c = let f = (fit (goal.at.overflow_mul-state c).Else-not-fits).settings.few_repairs in omega arith

pub returns-then-repairs-state : goal.returns-then-repairs-state
returns-then-repairs-state c =
    let a = c.args in
    sym (ap told_unread
    (unread_by a.state.now a.len a.spans.now a.repairs.now true false _ _ _ _ (fits (goal.at.returns-then-repairs-state c).Else-not-fits)
    (ne_eqb _ _ c.if-repairs-state.true) refl refl refl refl))

pub overflow_mul-state-2 : goal.overflow_mul-state-2
overflow_mul-state-2 c = let f = (fit (goal.at.overflow_mul-state-2 c).Else-not-fits).settings.few_spans in omega arith

pub returns-then-spans-state : goal.returns-then-spans-state
returns-then-spans-state c =
    let a = c.args in
    sym
    (ap told_unread
    (unread_by a.state.now a.len a.spans.now a.repairs.now true true false _ _ _ (fits (goal.at.returns-then-spans-state c).Else-not-fits)
    (eq-eqb _ _ c.if-repairs-state.false) (ne_eqb _ _ c.if-spans-state.true) refl refl refl))

pub ends_fit-requires : goal.ends_fit-requires
ends_fit-requires c = let l = c.if-spans-state.false in ((fit (goal.at.ends_fit-requires c).Else-not-fits).log, omega arith)

pub returns-then-not-ends_fit : goal.returns-then-not-ends_fit
returns-then-not-ends_fit c =
    let a = c.args in
    sym
    (ap told_unread
    (unread_by a.state.now a.len a.spans.now a.repairs.now true true true false _ _
    (fits (goal.at.returns-then-not-ends_fit c).Else-not-fits) (eq-eqb _ _ c.if-repairs-state.false)
    (eq-eqb _ _ c.if-spans-state.false) (sym c.ends_fit.ensures ∙ c.if-not-ends_fit.true) refl refl))

pub returns-then-len-state : goal.returns-then-len-state
returns-then-len-state c = by_length (goal.at.returns-then-len-state c).Else-not-ends_fit true _ (lt-ltb _ _ c.if-len-state.true) refl

pub returns-then-too_many : goal.returns-then-too_many
returns-then-too_many c = by_length (goal.at.returns-then-too_many c).Else-not-ends_fit false true (le-ltb _ _ c.if-len-state.false) (sym c.too_many.ensures ∙ c.if-too_many.true)

pub returns : goal.returns
returns c = by_length (goal.at.returns c).Else-not-ends_fit false false (le-ltb _ _ c.if-len-state.false) (sym c.too_many.ensures ∙ c.if-too_many.false)
