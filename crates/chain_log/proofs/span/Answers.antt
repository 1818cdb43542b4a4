-- `chain_log::span`: each test in its order, and then the span. Assumes nothing.
use mathlib.Core.Path.{◌≡◌, sym, ap, ◌∙◌}
use mathlib.Core.Bool.{◌&&◌}
use Prim.Native.Nat.{ℕ, ◌<◌}
use native.Mathlib.Omega.{arith}
use lib.Dec.{ltb}
use Rattle.rules.specs.Log.{ring_number}
use Rattle.stage_log.specs.View.{stage_of, mark_of}
use Rattle.stage_log.specs.Check.{ring_of}
use Rattle.stage_log.proofs.laws.RingNumbers.{ring_few}
use Rattle.chain_log.specs.Reading.{found, readable}
use Rattle.chain_log.proofs.laws.ReadingLaws.{no_store, no_span_lem, one_span}
use Rattle.chain_log.proofs.span.Goals as goal
use Rattle.chain_log.proofs.span.Goals.{After-ring_number-which, After-has_span}

pub returns-then-not-store_fits : goal.returns-then-not-store_fits
returns-then-not-store_fits c =
    let a = c.args in
    no_store a.state.now a.spans.now (ring_number (stage_of a.stage) (mark_of a.kind)) a.i
    (sym c.store_fits.ensures ∙ c.if-not-store_fits.true)

few : (c : After-ring_number-which) → c.ring_number-which.result < 12
few c = let a = c.args in omega (arith, c.ring_number-which.ensures, ring_few a.stage a.kind)

-- the test of the ring that the stage and the kind name
has : (c : After-has_span) → let a = c.args in
    let r = ring_of a.state.now.notes.log (ring_number (stage_of a.stage) (mark_of a.kind)) in
    (readable a.state.now.settings.spans r && ltb a.i r.count) ≡ c.has_span.result
has c =
    let a = c.args in
    ap (λ (k : ℕ). readable a.state.now.settings.spans (ring_of a.state.now.notes.log k) && ltb a.i (ring_of a.state.now.notes.log k).count)
    (sym c.ring_number-which.ensures)
    ∙ sym c.has_span.ensures

pub offset_bounds-state-which : goal.offset_bounds-state-which
offset_bounds-state-which c = omega (arith, few (goal.at.offset_bounds-state-which c).After-ring_number-which)

pub bounds-state-which : goal.bounds-state-which
bounds-state-which c = few (goal.at.bounds-state-which c).After-ring_number-which

pub returns-then-not-has_span : goal.returns-then-not-has_span
returns-then-not-has_span c =
    let a = c.args in
    no_span_lem a.state.now a.spans.now (ring_number (stage_of a.stage) (mark_of a.kind)) a.i
    (sym c.store_fits.ensures ∙ c.if-not-store_fits.false)
    (has (goal.at.returns-then-not-has_span c).After-has_span ∙ c.if-not-has_span.true)

pub read_span-requires : goal.read_span-requires
read_span-requires c =
    record {
      which_bound = (
        few (goal.at.read_span-requires c).After-ring_number-which,
        sym c.store_fits.ensures
            ∙ c.if-not-store_fits.false,
      );
      which_value = sym c.has_span.ensures ∙ c.if-not-has_span.false;
    }

pub returns : goal.returns
returns c =
    let a = c.args in
    ap found (rw c.ring_number-which.ensures at c.read_span.ensures)
    ∙ one_span a.state.now a.spans.now (ring_number (stage_of a.stage) (mark_of a.kind)) a.i
    (sym c.store_fits.ensures
    ∙ c.if-not-store_fits.false)
    (has (goal.at.returns c).After-has_span ∙ c.if-not-has_span.false)
