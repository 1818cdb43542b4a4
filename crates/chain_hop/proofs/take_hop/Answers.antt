-- `chain_hop::take_hop`: the monitor, the mark, and the state with both. Assumes nothing.
use mathlib.Core.Path.{◌≡◌, sym, subst}
use mathlib.Core.Bool.{true}
use Prim.Native.Nat.{◌*◌}
use native.Mathlib.Omega.{arith}
use lib.ListN.{length}
use Rattle.rules.specs.Log.{store_width}
use Rattle.stage_log.specs.Check.{log_fits}
use Rattle.chain_state.specs.declared.InputConditioner.{InputConditioner}
use Rattle.chain_state.proofs.laws.FitsLaws.{Fit, state_fit}
use Rattle.iq_monitor.specs.Observe.{Seen}
use Rattle.chain_hop.specs.HopReady.{Told}
use Rattle.chain_hop.proofs.laws.HopLaws.{Ready, refusal_none, told_watched, taken_by}
use Rattle.chain_hop.proofs.take_hop.Goals as goal
use Rattle.chain_hop.proofs.take_hop.Goals.{Start}

ready : (c : Start) → Ready c.args.state.now c.args.spans.now c.args.words.now
ready c = refusal_none c.args.state.now c.args.spans.now c.args.words.now c.requires

fit : (c : Start) → Fit c.args.state.now
fit c = state_fit c.args.state.now (ready c).state

pub watched-heard-requires : goal.watched-heard-requires
watched-heard-requires c = ((ready (goal.at.watched-heard-requires c).Start).words, (fit (goal.at.watched-heard-requires c).Start).settings.size)

pub noted-requires : goal.noted-requires
noted-requires c =
    let a = c.args in
    let start = (goal.at.noted-requires c).Start in
    let l : length a.spans.now ≡ a.state.now.settings.spans * store_width = omega (arith, (ready start).spans) in
    let P : InputConditioner → Type 0 = λ s. (log_fits s.settings.spans s.notes.log ≡ true) × (length a.spans.now ≡ s.settings.spans * store_width) in
    record {
      log_value = subst P (sym c.watched-heard.ensures.rest) ((fit start).log, l);
      told = subst (λ (s : Seen). Told s.answer) (sym c.watched-heard.ensures.seen) (told_watched a.state.now a.x.now a.start a.words.now (ready start).state);
    }

pub returns : goal.returns
returns c =
    let a = c.args in
    let w = c.watched-heard in
    taken_by a.state.now a.x.now a.start a.spans.now a.words.now w.new.state w.result c.noted.new.log _ w.new.words w.ensures.rest w.ensures.seen
    c.noted.ensures
