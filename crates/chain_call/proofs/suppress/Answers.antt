-- `chain_call::suppress` runs the impulse stage, if it runs. Assumes nothing.
use mathlib.Core.Path.{ap, ◌∙◌}
use mathlib.Core.List.{List}
use Prim.Native.Nat.{ℕ}
use lib.ListN.{length}
use Rattle.impulse.specs.declared.ImpulseSuppressor.{ImpulseSuppressor}
use Rattle.impulse_slice.specs.Noted.{note_all, over}
use Rattle.chain_state.specs.Changed.{after_call}
use Rattle.chain.specs.Stages.{machine_of, notes_in}
use Rattle.chain.proofs.laws.SliceLaws.{call_roomy, call_room, off_after, off_told, off_out, off_written, on_after, on_told, on_out}
use Rattle.chain_call.proofs.suppress.Goals as goal

pub returns-then-not-state : goal.returns-then-not-state
unfolding note_all
returns-then-not-state c =
    let a = c.args in
    let s = a.state.now in
    let off = c.if-not-state.true in
    record {
      state = ap (λ (m : ImpulseSuppressor). after_call s s.counts m s.blocker s.notes) (off_after s a.samples.now a.spans.now a.repairs.now c.requires off);
      noted =
          ap (note_all s.settings.spans s.settings.repairs (notes_in (machine_of s a.spans.now a.repairs.now)))
          (off_told s a.samples.now a.spans.now a.repairs.now c.requires off);
      ready = ap length (off_out s a.samples.now a.spans.now a.repairs.now c.requires off);
      written = off_written s a.samples.now a.spans.now a.repairs.now c.requires off;
    }

pub run-requires : goal.run-requires
run-requires c =
    let a = c.args in
    let s = a.state.now in
    record {
      held_in_bounds = c.requires.held_in;
      room = call_room s a.samples.now a.spans.now a.repairs.now c.requires c.if-not-state.false;
      roomy = call_roomy s a.samples.now a.spans.now a.repairs.now c.requires;
    }

pub returns : goal.returns
returns c =
    let a = c.args in
    let s = a.state.now in
    let on = c.if-not-state.false in
    let r = c.run.ensures in
    let out = on_out s a.samples.now a.spans.now a.repairs.now c.requires on in
    record {
      state =
          ap (λ (m : ImpulseSuppressor). after_call s s.counts m s.blocker c.run.new.notes)
          (r.suppressor ∙ on_after s a.samples.now a.spans.now a.repairs.now c.requires on);
      noted =
          r.noted
          ∙ ap (note_all s.settings.spans s.settings.repairs (notes_in (machine_of s a.spans.now a.repairs.now)))
          (on_told s a.samples.now a.spans.now a.repairs.now c.requires on);
      ready = r.ready ∙ ap length out;
      written = r.written ∙ ap (λ (l : List ℕ). over l a.samples.now) out;
    }
