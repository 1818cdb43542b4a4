-- `chain_undo::revert_repairs` tests the state, the store and its records, and then undoes them. Assumes nothing.
use mathlib.Core.Path.{◌≡◌, sym, ◌∙◌}
use mathlib.Core.Bool.{true}
use native.Mathlib.Omega.{arith}
use borrow.Author.Tests.{eq-eqb, ne_eqb}
use Rattle.chain_state.specs.Fits.{state_fits}
use Rattle.chain_state.proofs.laws.FitsLaws.{state_fit}
use Rattle.chain_undo.specs.Undoing.{records_fit, records_of}
use Rattle.chain_undo.proofs.laws.UndoTests.{unfit_state, wrong_length, unfit_records, all_undone, ring_sound}
use Rattle.chain_undo.proofs.revert_repairs.Goals as goal
use Rattle.chain_undo.proofs.revert_repairs.Goals.{Else-not-fits, Else-not-records_fit}

-- the state is fit
fits : (c : Else-not-fits) → state_fits c.args.state.now ≡ true
fits c = sym c.fits.ensures ∙ c.if-not-fits.false

-- and every record
records : (c : Else-not-records_fit) → let a = c.args in
    records_fit (records_of a.state.now a.repairs.now) ≡ true
records c = sym c.records_fit.ensures ∙ c.if-not-records_fit.false

pub returns-then-not-fits : goal.returns-then-not-fits
returns-then-not-fits c =
    let a = c.args in
    let whole = unfit_state a.state.now a.repairs.now a.samples.now a.first (sym c.fits.ensures ∙ c.if-not-fits.true) in
    record { answer = whole.0; written = whole.1 }

pub overflow_mul-capacity : goal.overflow_mul-capacity
overflow_mul-capacity c = let f = (state_fit _ (fits (goal.at.overflow_mul-capacity c).Else-not-fits)).settings.few_repairs in omega arith

pub returns-then-repairs-capacity : goal.returns-then-repairs-capacity
returns-then-repairs-capacity c =
    let a = c.args in
    let whole = wrong_length a.state.now a.repairs.now a.samples.now a.first (fits (goal.at.returns-then-repairs-capacity c).Else-not-fits) (ne_eqb _ _ c.if-repairs-capacity.true) in
    record { answer = whole.0; written = whole.1 }

pub records_fit-requires : goal.records_fit-requires
records_fit-requires c =
    let a = c.args in
    ring_sound a.state.now a.repairs.now (fits (goal.at.records_fit-requires c).Else-not-fits) c.if-repairs-capacity.false

pub returns-then-not-records_fit : goal.returns-then-not-records_fit
returns-then-not-records_fit c =
    let a = c.args in
    let whole = unfit_records a.state.now a.repairs.now a.samples.now a.first (fits (goal.at.returns-then-not-records_fit c).Else-not-fits)
    (eq-eqb _ _ c.if-repairs-capacity.false)
    (sym c.records_fit.ensures ∙ c.if-not-records_fit.true) in
    record { answer = whole.0; written = whole.1 }

pub undo_records-requires : goal.undo_records-requires
undo_records-requires c =
    let a = c.args in
    record {
      sound = ring_sound a.state.now a.repairs.now (fits (goal.at.undo_records-requires c).Else-not-fits) c.if-repairs-capacity.false;
      repairs_value = records (goal.at.undo_records-requires c).Else-not-records_fit;
    }

pub returns : goal.returns
returns c =
    let a = c.args in
    let whole = all_undone a.state.now a.repairs.now a.samples.now a.first _ (fits (goal.at.returns c).Else-not-fits)
    (eq-eqb _ _ c.if-repairs-capacity.false)
    (records (goal.at.returns c).Else-not-records_fit)
    c.undo_records.ensures in
    record { answer = whole.0; written = whole.1 }
