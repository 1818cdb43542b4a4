-- `vatgorge::making::vg_make`: making, with the configuration that the words say. Assumes nothing.
use mathlib.Core.Path.{ap, ◌∙◌}
use Prim.Native.Nat.{ℕ}
use Rattle.chain_make.specs.Making.{Said, fresh_state, made_words}
use Rattle.chain_make.proofs.laws.MakingLaws.{if_made_along}
use Rattle.chain_config.specs.declared.ConditioningConfig.{ConditioningConfig}
use Rattle.rules.specs.Constants.{zero_f}
use Rattle.vatgorge.specs.Make.{code_of, said_of}
use Rattle.vatgorge.specs.Codes.{words_after}
use Rattle.vatgorge.specs.Config.{config_in}
use Rattle.vatgorge.proofs.making.vg_make.Goals as goal

pub returns : goal.returns
returns c =
    let a = c.args in
    let ws = a.state.now in
    let given = c.read_config-asked.ensures in
    let m = c.with_geometry-made.ensures in
    let kept = c.keep_made.ensures in
    let said : ConditioningConfig → Said = λ g. said_of g a.spans.now a.repairs.now a.monitor.now in
    let code = kept.code ∙ ap code_of (m.answer ∙ ap said given) in
    let fresh = if_made_along c.with_geometry-made.result (ap fresh_state given) m.state in
    let words = kept.words _ fresh ∙ ap (λ (k : ℕ). words_after k ws (fresh_state (config_in a.config.now))) code in
    let spans = m.spans ∙ ap (λ (g : ConditioningConfig). made_words 0 (said g) a.spans.now) given in
    let repairs = m.repairs ∙ ap (λ (g : ConditioningConfig). made_words 0 (said g) a.repairs.now) given in
    let monitor = m.words ∙ ap (λ (g : ConditioningConfig). made_words zero_f (said g) a.monitor.now) given in
    record {
      after = λ i. record { code = code i; state = words i; spans = spans i; repairs = repairs i; monitor = monitor i };
      again = kept.again _ fresh;
    }
