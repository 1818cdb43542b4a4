-- `vatgorge::vg_hop`: the hop on the state that the words say. Assumes nothing.
use mathlib.Core.Bool.{false}
use mathlib.Core.Path.{◌≡◌, subst, ap, ◌∙◌}
use lib.Dec.{eqb}
use Rattle.chain_words.specs.States.{state_of}
use Rattle.iq_monitor.specs.Observe as monitor
use Rattle.chain_hop.proofs.laws.HopKeeps.{hop_keeps}
use Rattle.chain_hop.specs.Hops.{Hopped, hop_of, hop_told}
use Rattle.chain_state.specs.declared.InputConditioner.{InputConditioner}
use Rattle.rules.specs.Monitor.{Answer}
use Rattle.rules.specs.Answers.{Said, is_accepted}
use Rattle.vatgorge.proofs.laws.Says.{says, hop_zero}
use Rattle.vatgorge.specs.Hop.{code_of, out_after}
use Rattle.vatgorge.specs.Codes.{words_after, state_after}
use Rattle.vatgorge.proofs.vg_hop.Goals as goal

pub returns : goal.returns
returns c =
    let a = c.args in
    let ws = a.state.now in
    let read = c.read_state-after.ensures in
    let o = c.observe_hop-answer.ensures in
    let answer = c.observe_hop-answer.result in
    let kept = c.keep.ensures in
    let run : InputConditioner → Hopped = λ s. hop_of s a.channels.now a.start a.spans.now a.monitor.now in
    let h = run (state_of ws) in
    let hopped = o.hopped ∙ ap run read in
    let told = o.said ∙ ap (λ (s : InputConditioner). hop_told s a.channels.now a.start a.spans.now a.monitor.now) read in
    let code = c.hop_code-code.ensures ∙ ap code_of told in
    let words = kept.words ∙ (λ i. words_after (code i) ws (hopped i).state) in
    let out = c.tell_hop.ensures ∙ ap (out_after a.out.now) told in
    let answered : monitor.said answer ≡ monitor.said h.answer = ap (λ (x : Hopped). monitor.said x.answer) hopped in
    let zero = subst (λ (x : Said Answer). is_accepted x ≡ eqb (code_of x) 0) answered (hop_zero answer) in
    let number = c.hop_code-code.ensures ∙ ap code_of answered in
    let keeps : eqb (code_of (monitor.said h.answer)) 0 ≡ false → h.state ≡ state_of ws =
    λ e. (hop_keeps (state_of ws) a.channels.now a.start a.spans.now a.monitor.now (zero ∙ e)).state in
    let same = says (code_of (monitor.said h.answer)) ws h.state keeps in
    record {
      after = λ i. record { code = code i; state = words i; spans = (hopped i).spans; monitor = (hopped i).words; out = out i };
      chain = kept.again ∙ (λ i. state_after (number i) ws (hopped i).state) ∙ same;
    }
