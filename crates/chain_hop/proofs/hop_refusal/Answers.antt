-- `chain_hop::hop_refusal`: each test in its order. Assumes nothing.
use mathlib.Core.Path.{◌≡◌, refl, sym, ap, ◌∙◌}
use mathlib.Core.Bool.{true, false}
use Prim.Native.Nat.{◌*◌}
use native.Mathlib.Omega.{arith}
use borrow.Author.Tests.{eq-eqb, ne_eqb}
use lib.ListN.{length}
use Rattle.rules.specs.Log.{store_width}
use Rattle.chain_state.specs.Fits.{state_fits}
use Rattle.chain_state.proofs.laws.FitsLaws.{Fit, state_fit}
use Rattle.chain_hop.specs.Hops.{fitness}
use Rattle.chain_hop.proofs.laws.HopLaws.{refusal_by}
use Rattle.chain_hop.proofs.hop_refusal.Goals as goal
use Rattle.chain_hop.proofs.hop_refusal.Goals.{Else-not-fits}

passed : (c : Else-not-fits) → state_fits c.args.state.now ≡ true
passed c = sym c.fits.ensures ∙ c.if-not-fits.false

fit : (c : Else-not-fits) → Fit c.args.state.now
fit c = state_fit c.args.state.now (passed c)

pub returns-then-not-fits : goal.returns-then-not-fits
returns-then-not-fits c =
    let a = c.args in
    ap fitness (refusal_by a.state.now a.spans.now a.words.now false _ _ _ _ (sym c.fits.ensures ∙ c.if-not-fits.true) refl refl refl refl)

pub overflow_mul-state : goal.overflow_mul-state
overflow_mul-state c = omega (arith, (fit (goal.at.overflow_mul-state c).Else-not-fits).settings.few_spans)

pub returns-then-spans-state : goal.returns-then-spans-state
returns-then-spans-state c =
    let a = c.args in
    ap fitness (refusal_by a.state.now a.spans.now a.words.now true false _ _ _ (passed (goal.at.returns-then-spans-state c).Else-not-fits) (ne_eqb _ _ c.if-spans-state.true) refl refl refl)

pub overflow_mul-state-2 : goal.overflow_mul-state-2
overflow_mul-state-2 c = omega (arith, (fit (goal.at.overflow_mul-state-2 c).Else-not-fits).settings.size)

pub returns-then-words-state : goal.returns-then-words-state
returns-then-words-state c =
    let a = c.args in
    ap fitness (refusal_by a.state.now a.spans.now a.words.now true true false _ _ (passed (goal.at.returns-then-words-state c).Else-not-fits)
    (eq-eqb _ _ c.if-spans-state.false) (ne_eqb _ _ c.if-words-state.true) refl refl)

pub ends_fit-requires : goal.ends_fit-requires
ends_fit-requires c =
    let a = c.args in
    let l : length a.spans.now ≡ a.state.now.settings.spans * store_width = omega (arith, c.if-spans-state.false) in
    ((fit (goal.at.ends_fit-requires c).Else-not-fits).log, l)

pub returns-then-not-ends_fit : goal.returns-then-not-ends_fit
returns-then-not-ends_fit c =
    let a = c.args in
    ap fitness (refusal_by a.state.now a.spans.now a.words.now true true true false _ (passed (goal.at.returns-then-not-ends_fit c).Else-not-fits)
    (eq-eqb _ _ c.if-spans-state.false) (eq-eqb _ _ c.if-words-state.false)
    (sym c.ends_fit.ensures ∙ c.if-not-ends_fit.true) refl)

pub returns-then-not-words_fit : goal.returns-then-not-words_fit
returns-then-not-words_fit c =
    let a = c.args in
    ap fitness (refusal_by a.state.now a.spans.now a.words.now true true true true false
    (passed (goal.at.returns-then-not-words_fit c).Else-not-fits) (eq-eqb _ _ c.if-spans-state.false)
    (eq-eqb _ _ c.if-words-state.false)
    (sym c.ends_fit.ensures ∙ c.if-not-ends_fit.false)
    (sym c.words_fit.ensures ∙ c.if-not-words_fit.true))

pub returns : goal.returns
returns c =
    let a = c.args in
    ap fitness (refusal_by a.state.now a.spans.now a.words.now true true true true true
    (passed (goal.at.returns c).Else-not-fits) (eq-eqb _ _ c.if-spans-state.false)
    (eq-eqb _ _ c.if-words-state.false)
    (sym c.ends_fit.ensures ∙ c.if-not-ends_fit.false)
    (sym c.words_fit.ensures ∙ c.if-not-words_fit.false))
