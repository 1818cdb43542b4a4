-- `vatgorge::vg_condition`: the call on the state that the words say. Assumes nothing.
use mathlib.Core.Path.{◌≡◌, sym, ap, ◌∙◌}
use Rattle.chain_state.specs.declared.InputConditioner.{InputConditioner}
use Rattle.chain.specs.Calls.{Outcome, called}
use Rattle.chain.specs.Stages.{machine_of}
use Rattle.rules.specs.Answers.{number_of}
use Rattle.vatgorge.proofs.laws.CallAfter.{number_said, kept_chain}
use Rattle.vatgorge.specs.Condition.{out_after}
use Rattle.vatgorge.specs.Codes.{words_after}
use Rattle.vatgorge.proofs.vg_condition.Goals as goal

pub returns : goal.returns
returns c =
    let a = c.args in
    let xs = a.samples.now in
    let spans = a.spans.now in
    let repairs = a.repairs.now in
    let e = ap (λ (s : InputConditioner). called (machine_of s spans repairs) xs) c.read_state-next.ensures in
    let o = c.condition-answer.ensures in
    let kept = c.keep.ensures in
    let told = o.answer ∙ ap (λ (p : Outcome). p.said) e in
    let chain = o.chain ∙ ap (λ (p : Outcome). p.machine) e in
    let written = o.written ∙ ap (λ (p : Outcome). p.samples) e in
    let code = c.number-code.ensures ∙ number_said c.condition-answer.result ∙ ap number_of told in
    let words = kept.words ∙ (λ i. words_after (code i) a.state.now (chain i).state) in
    let out = c.tell_call.ensures ∙ ap (out_after a.out.now) told in
    record {
      after = λ i. record { code = code i; state = words i; samples = written i; spans = (chain i).spans; repairs = (chain i).repairs; out = out i };
      chain =
          (λ i. machine_of (kept.again i) c.condition-answer.new.spans c.condition-answer.new.repairs)
          ∙ kept_chain a.state.now xs spans repairs _ _ _ _ code chain;
    }
