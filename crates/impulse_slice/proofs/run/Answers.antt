-- `impulse_slice::run` meets its contract. Assumes nothing.
use mathlib.Core.Path.{refl, ap, ◌∙◌}
use mathlib.Core.List.{List}
use Prim.Native.Nat.{ℕ, ◌<◌}
use native.Mathlib.Omega.{arith}
use lib.ListN.{length}
use Rattle.impulse.specs.Machine.{setting_of}
use Rattle.impulse_slice.specs.Noted.{noted_of, note_all, state_after, handed, told, over}
use Rattle.impulse_slice.proofs.Turns.{going_first, out_few, length_same, going_room, going_roomy, going_next, going_last}
use Rattle.impulse_slice.proofs.run.Goals as goal

pub loop-k-init : goal.loop-k-init
loop-k-init c =
    let a = c.args in (
      going_first a.span_capacity a.repair_capacity a.held a.suppressor.now (noted_of a.notes.now a.spans.now a.repairs.now) a.samples.now
          c.requires.held_in_bounds,
      refl,
      refl,
    )

pub take-out-requires : goal.take-out-requires
take-out-requires c =
    let a = c.args in
    let l = c.loop-k in
    let n₀ = noted_of a.notes.now a.spans.now a.repairs.now in
    let n = noted_of l.notes l.spans l.repairs in
    let g = l.invariant.0 in
    let same = length_same a.span_capacity a.repair_capacity a.held a.suppressor.now n₀ a.samples.now l.suppressor n l.samples l.out l.k g in
    let few = out_few a.span_capacity a.repair_capacity a.held a.suppressor.now n₀ a.samples.now l.suppressor n l.samples l.out l.k g in
    let h : l.k < length a.samples.now = omega (arith, same) in
    record {
      k_in_bounds = (omega arith, few);
      room = going_room a.span_capacity a.repair_capacity a.held a.suppressor.now n₀ a.samples.now l.suppressor n l.samples l.out l.k g h c.requires.room;
      roomy =
          going_roomy a.span_capacity a.repair_capacity a.held a.suppressor.now n₀ a.samples.now l.suppressor n l.samples l.out l.k g h c.requires.room
          c.requires.roomy;
    }

pub loop-k-preserved : goal.loop-k-preserved
loop-k-preserved c =
    let a = c.args in
    let l = c.loop-k in
    let n₀ = noted_of a.notes.now a.spans.now a.repairs.now in
    let n = noted_of l.notes l.spans l.repairs in
    let t = c.take-out in
    let g = l.invariant.0 in
    let same = length_same a.span_capacity a.repair_capacity a.held a.suppressor.now n₀ a.samples.now l.suppressor n l.samples l.out l.k g in
    let h : l.k < length a.samples.now = omega (arith, same, c.loop-k-test.true) in (
      going_next a.span_capacity a.repair_capacity a.held a.suppressor.now n₀ a.samples.now l.suppressor n l.samples l.out l.k g
          t.new.suppressor (noted_of t.new.notes t.new.spans t.new.repairs) t.new.samples t.result h
          t.ensures.suppressor t.ensures.noted t.ensures.ready t.ensures.written,
      t.auto.spans ∙ l.invariant.1,
      t.auto.repairs ∙ l.invariant.2,
    )

pub shape_of-samples : goal.shape_of-samples
shape_of-samples c =
    let a = c.args in
    let l = c.loop-k in
    length_same a.span_capacity a.repair_capacity a.held a.suppressor.now (noted_of a.notes.now a.spans.now a.repairs.now) a.samples.now
    l.suppressor (noted_of l.notes l.spans l.repairs) l.samples l.out l.k l.invariant.0

pub shape_of-spans : goal.shape_of-spans
shape_of-spans c = c.loop-k.invariant.1

pub shape_of-repairs : goal.shape_of-repairs
shape_of-repairs c = c.loop-k.invariant.2

pub returns : goal.returns
returns c =
    let a = c.args in
    let l = c.loop-k in
    let m₀ = a.suppressor.now in
    let n₀ = noted_of a.notes.now a.spans.now a.repairs.now in
    let g = l.invariant.0 in
    let s = setting_of m₀.gate in
    let same = length_same a.span_capacity a.repair_capacity a.held m₀ n₀ a.samples.now l.suppressor (noted_of l.notes l.spans l.repairs) l.samples l.out l.k g in
    let all = going_last a.span_capacity a.repair_capacity a.held m₀ n₀ a.samples.now l.suppressor (noted_of l.notes l.spans l.repairs) l.samples l.out l.k g
    (omega (arith, same)) in
    record {
      suppressor = g.state ∙ ap (state_after s m₀) all;
      noted = g.notes ∙ ap (λ (xs : List ℕ). note_all a.span_capacity a.repair_capacity n₀ (told s m₀ xs)) all;
      ready = g.ready ∙ ap (λ (xs : List ℕ). length (handed s m₀ xs)) all;
      written = g.written ∙ ap (λ (xs : List ℕ). over (handed s m₀ xs) a.samples.now) all;
    }
