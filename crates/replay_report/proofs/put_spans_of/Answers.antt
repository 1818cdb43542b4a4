-- `replay_report::put_spans_of`: the spans before number i stand behind the text. Assumes nothing.
use mathlib.Core.Path.{sym, ap, ◌∙◌}
use native.Mathlib.Omega.{arith}
use Prim.Native.Nat.{◌≤◌}
use lib.ListN.{length}
use lib.Seq.{take_all}
use Rattle.rules.specs.Log.{span_of, ring_number}
use Rattle.stage_log.specs.View.{stage_of, mark_of}
use Rattle.chain_log.specs.Reading.{said_span}
use Rattle.replay_text.specs.Text.{each}
use Rattle.replay_text.proofs.laws.PutLaws.{added_none}
use Rattle.replay_report.specs.Lines.{span_line}
use Rattle.replay_report.specs.Shown.{shown_spans}
use Rattle.replay_report.proofs.laws.ShownLaws.{number_none, span_next, shown_read, shown_few}
use Rattle.replay_report.proofs.put_spans_of.Goals as goal

pub loop-i-init : goal.loop-i-init
unfolding each
loop-i-init c = added_none _

pub returns-in_default : goal.returns-in_default
returns-in_default c =
    let l = c.loop-i in
    let ring = ring_number (stage_of c.args.stage) (mark_of c.args.kind) in
    let e = sym (shown_read c.args.state.now c.args.spans.now ring l.i) ∙ sym c.span.ensures ∙ ap said_span c.in_default.is in
    rw (take_all _ _ (number_none (shown_spans c.args.state.now c.args.spans.now ring) l.i e)) at l.invariant

pub loop-i-preserved : goal.loop-i-preserved
loop-i-preserved c =
    let a = c.args in
    let s = c.in-Some.s in
    let ring = ring_number (stage_of a.stage) (mark_of a.kind) in
    let e = sym (shown_read a.state.now a.spans.now ring c.loop-i.i) ∙ sym c.span.ensures ∙ ap said_span c.in-Some.is in
    span_next (span_line (stage_of a.stage) (mark_of a.kind)) (shown_spans a.state.now a.spans.now ring) c.loop-i.i (span_of s.start s.len) e
    c.loop-i.invariant c.put_span.ensures

pub returns : goal.returns
returns c =
    let ring = ring_number (stage_of c.args.stage) (mark_of c.args.kind) in
    let spans = shown_spans c.args.state.now c.args.spans.now ring in
    let few : length spans ≤ c.loop-i.i = omega (arith, shown_few c.args.state.now c.args.spans.now ring) in
    rw (take_all _ spans few) at c.loop-i.invariant
