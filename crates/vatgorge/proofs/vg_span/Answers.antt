-- `vatgorge::vg_span`: a span of the state that the words say. Assumes nothing.
use mathlib.Core.Path.{ap, ◌∙◌}
use Rattle.chain_log.specs.Reading.{span_read}
use Rattle.stage_log.specs.View.{stage_of, mark_of}
use Rattle.rules.specs.Log.{ring_number}
use Rattle.vatgorge.specs.Span.{after_found}
use Rattle.vatgorge.proofs.vg_span.Goals as goal

pub returns : goal.returns
returns c =
    let a = c.args in
    let state = c.read_state.ensures in
    let stage = c.stage_at.ensures in
    let mark = c.mark_at.ensures in
    let read = c.span-read.ensures ∙ (λ i. span_read (state i) a.spans.now (ring_number (stage_of (stage i)) (mark_of (mark i))) a.i) in
    c.tell_span.ensures ∙ ap (after_found a.out.now) read
