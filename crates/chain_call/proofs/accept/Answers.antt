-- `chain_call::accept` runs the stages one after another. Assumes nothing.
use mathlib.Core.Path.{◌≡◌, refl, ap, ◌∙◌}
use Prim.Native.Nat.{◌+◌, ◌-◌}
use native.Mathlib.Omega.{arith}
use lib.ListN.{length, take, drop}
use mathlib.Core.List.{map, ◌++◌}
use Rattle.stage_log.specs.View.{with_log}
use Rattle.rules.specs.Iq.{corrected_by}
use Rattle.iq.specs.View.{settled_of}
use Rattle.stage_mode.specs.View.{mode_of}
use Rattle.dc.specs.declared.DcBlocker.{DcBlocker}
use Rattle.dc.specs.Blocker.{Blocked}
use Rattle.chain_state.specs.declared.Counts.{Counts}
use Rattle.chain_state.specs.Changed.{after_call}
use Rattle.chain.specs.Stages.{machine_of, dc_after, blocked_by}
use Rattle.chain_state.specs.declared.InputConditioner.{InputConditioner}
use Rattle.chain_state.proofs.laws.FitsLaws.{state_fit}
use Rattle.chain.specs.Stages.{Acceptable}
use Rattle.chain.proofs.laws.CallTests.{acceptable}
use Rattle.chain.proofs.laws.SliceLaws.{new_few, new_length}
use Rattle.chain.proofs.laws.Processing.{ready_few, ready_inside, ran_bounded, ran_length, ready_count, ready_clamped, processed_written, processed_chain}
use Rattle.chain_call.proofs.accept.Goals as goal
use Rattle.chain_call.proofs.accept.Goals.{After-sized, After-filter-clamped}

-- the slice is acceptable
fit : (s : After-sized) → Acceptable s.args.state.now s.args.samples.now s.args.spans.now s.args.repairs.now
fit s = acceptable s.args.state.now s.args.samples.now s.args.spans.now s.args.repairs.now s.requires s.sized.ensures

-- the impulse stage leaves the blocker
same : {x y : InputConditioner} → x ≡ y → x.blocker ≡ y.blocker
same e = ap (λ (x : InputConditioner). x.blocker) e

-- the blocker and the count after the DC stage, and what it and the IQ stage wrote
abbrev blocked : After-filter-clamped → Blocked
blocked s = record { blocker = s.filter-clamped.new.blocker; clamped = s.filter-clamped.result }

after : (s : After-filter-clamped) → blocked s ≡ dc_after (mode_of s.args.state.now.settings.dc) s.args.state.now.blocker (take s.suppress-ready.result s.suppress-ready.new.samples)
after s =
    s.filter-clamped.ensures.after
    ∙ ap (λ (b : DcBlocker). dc_after (mode_of s.args.state.now.settings.dc) b (take s.suppress-ready.result s.suppress-ready.new.samples)) (same s.suppress-ready.ensures.state)

written : (s : After-filter-clamped) → s.filter-clamped.new.samples
    ≡ map (corrected_by (settled_of s.args.state.now.settings.iq))
    (blocked_by (mode_of s.args.state.now.settings.dc) s.args.state.now.blocker (take s.suppress-ready.result s.suppress-ready.new.samples))
    ++ drop s.suppress-ready.result s.suppress-ready.new.samples
written s =
    s.filter-clamped.ensures.written
    ∙ ap
    (λ (b : DcBlocker). map (corrected_by (settled_of s.args.state.now.settings.iq)) (blocked_by (mode_of s.args.state.now.settings.dc) b (take s.suppress-ready.result s.suppress-ready.new.samples))
    ++ drop s.suppress-ready.result s.suppress-ready.new.samples) (same s.suppress-ready.ensures.state)

pub overflow_sub-new : goal.overflow_sub-new
overflow_sub-new c = (fit (goal.at.overflow_sub-new c).After-sized).held_in

pub suppress-ready-requires : goal.suppress-ready-requires
suppress-ready-requires c =
    fit (goal.at.suppress-ready-requires c).After-sized

pub filter-clamped-requires : goal.filter-clamped-requires
filter-clamped-requires c =
    let s = (goal.at.filter-clamped-requires c).After-sized in
    let a = s.args in
    let r = c.suppress-ready.ensures in
    let k = r.ready in
    let u = (state_fit a.state.now (fit s).stored.fits).updates in
    let few = ready_few a.state.now a.samples.now a.spans.now a.repairs.now (fit s) _ k in
    let inside = ready_inside a.state.now a.samples.now a.spans.now a.repairs.now (fit s) _ k in
    let kept = ap (λ (b : DcBlocker). b.n) (same r.state) in
    let long = ran_length a.state.now a.samples.now a.spans.now a.repairs.now (fit s) c.suppress-ready.new.state.notes c.suppress-ready.result _ _ _ r.noted k r.written in
    record {
      ready_in_bounds = omega arith;
      ready_bound = omega arith;
    }

pub mark_released-requires : goal.mark_released-requires
mark_released-requires c =
    let s = (goal.at.mark_released-requires c).After-sized in
    let a = s.args in
    let r = c.suppress-ready.ensures in
    let k = r.ready in
    record {
      bounded = ran_bounded a.state.now a.samples.now a.spans.now a.repairs.now (fit s) c.suppress-ready.new.state.notes c.suppress-ready.result _ _ _ r.noted k r.written;
      start_bound = ((state_fit a.state.now (fit s).stored.fits).released, ready_few a.state.now a.samples.now a.spans.now a.repairs.now (fit s) _ k);
    }

pub overflow_add-state : goal.overflow_add-state
overflow_add-state c =
    let s = (goal.at.overflow_add-state c).After-sized in
    let a = s.args in
    let n = (state_fit a.state.now (fit s).stored.fits).seen in
    let few = new_few a.state.now a.samples.now a.spans.now a.repairs.now (fit s) in
    let len = new_length a.state.now a.samples.now a.spans.now a.repairs.now (fit s) in
    omega arith

pub overflow_add-state-2 : goal.overflow_add-state-2
overflow_add-state-2 c =
    let s = (goal.at.overflow_add-state-2 c).After-sized in
    let a = s.args in
    let n = (state_fit a.state.now (fit s).stored.fits).released in
    let few = ready_few a.state.now a.samples.now a.spans.now a.repairs.now (fit s) _ c.suppress-ready.ensures.ready in
    omega arith

pub overflow_sub-state : goal.overflow_sub-state
overflow_sub-state c =
    let s = (goal.at.overflow_sub-state c).After-sized in
    let a = s.args in
    ready_inside a.state.now a.samples.now a.spans.now a.repairs.now (fit s) _ c.suppress-ready.ensures.ready

pub overflow_add-state-3 : goal.overflow_add-state-3
overflow_add-state-3 c =
    let s = (goal.at.overflow_add-state-3 c).After-sized in
    let a = s.args in
    let r = c.suppress-ready.ensures in
    let n = (state_fit a.state.now (fit s).stored.fits).clamped in
    let few =
    ready_clamped a.state.now a.samples.now a.spans.now a.repairs.now (fit s) c.suppress-ready.new.state.notes c.suppress-ready.result _ _ _ r.noted r.ready
    r.written _ (after (goal.at.overflow_add-state-3 c).After-filter-clamped) in
    omega arith

pub shape_of-samples : goal.shape_of-samples
shape_of-samples c =
    c.filter-clamped.auto.samples ∙ c.suppress-ready.auto.samples

pub shape_of-spans : goal.shape_of-spans
shape_of-spans c =
    c.mark_released.auto.spans
    ∙ c.suppress-ready.auto.spans

pub shape_of-repairs : goal.shape_of-repairs
shape_of-repairs c = c.suppress-ready.auto.repairs

pub returns-clause-ready : goal.returns-clause-ready
returns-clause-ready c =
    let s = (goal.at.returns-clause-ready c).After-sized in
    let a = s.args in
    let r = c.suppress-ready.ensures in
    ready_count a.state.now a.samples.now a.spans.now a.repairs.now (fit s) c.suppress-ready.new.state.notes c.suppress-ready.result _ _ _ r.noted r.ready r.written

pub returns-clause-written : goal.returns-clause-written
returns-clause-written c =
    let s = (goal.at.returns-clause-written c).After-sized in
    let a = s.args in
    let r = c.suppress-ready.ensures in
    processed_written a.state.now a.samples.now a.spans.now a.repairs.now (fit s) c.suppress-ready.new.state.notes c.suppress-ready.result _ _ _ r.noted r.ready r.written _
    (written (goal.at.returns-clause-written c).After-filter-clamped)

pub returns-clause-chain : goal.returns-clause-chain
returns-clause-chain c =
    let s = (goal.at.returns-clause-chain c).After-sized in
    let f = (goal.at.returns-clause-chain c).After-filter-clamped in
    let a = s.args in
    let r = c.suppress-ready.ensures in
    let m = c.suppress-ready.new.state.notes in
    let k = c.suppress-ready.result in
    let l = c.mark_released in
    let n : Counts = record {
      seen = a.state.now.counts.seen + (length a.samples.now - a.state.now.counts.held);
      released = a.state.now.counts.released + k;
      held = length a.samples.now - k;
      clamped = a.state.now.counts.clamped + c.filter-clamped.result;
    } in
    ap (λ (x : InputConditioner). machine_of (after_call x n x.suppressor c.filter-clamped.new.blocker (with_log m l.new.log)) l.new.spans c.suppress-ready.new.repairs) r.state
    ∙ processed_chain a.state.now a.samples.now a.spans.now a.repairs.now (fit s) m k _ _ _ r.noted r.ready r.written _ refl (blocked f)
    (after f) _ _
    l.ensures
