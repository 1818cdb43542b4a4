-- `replay_start::start`: number 14 by what the header says, and then making. Assumes nothing.
use mathlib.Core.Path.{ap, sym, ◌∙◌}
use Rattle.std.proofs.lemmas.Result.{err_from_is_err_and}
use Rattle.rules.specs.Constants.{zero_f}
use Rattle.chain_make.specs.Making.{Said, fresh_state, made_words}
use Rattle.chain_make.proofs.laws.MakingLaws.{if_made_along}
use Rattle.replay_format.proofs.laws.HeaderLaws.{config_again}
use Rattle.replay_start.proofs.laws.StartingLaws.{said_is, state_is}
use Rattle.replay_start.proofs.start.Goals as goal

pub returns-in_err-config : goal.returns-in_err-config
returns-in_err-config c =
    let a = c.args in
    let said = said_is a.head.now _ c.in_err-config.ensures _ _ _ in
    let p = err_from_is_err_and c.from_residual.result c.from_residual.ensures.1 in
    record {
      answer = rw (p.1, p.2) said;
      state = rw p.1 tt;
      spans = ap (λ (s : Said). made_words 0 s a.spans.now) said;
      repairs = ap (λ (s : Said). made_words 0 s a.repairs.now) said;
      words = ap (λ (s : Said). made_words zero_f s a.words.now) said;
    }

pub returns : goal.returns
returns c =
    let a = c.args in
    let h = c.in_ok-config.ensures in
    let m = c.with_geometry.ensures in
    let said = said_is a.head.now _ h _ _ _ in
    record {
      answer = m.answer ∙ said;
      state = if_made_along c.with_geometry.result (ap fresh_state (sym (config_again _)) ∙ state_is _ _ h) m.state;
      spans = m.spans ∙ ap (λ (s : Said). made_words 0 s a.spans.now) said;
      repairs = m.repairs ∙ ap (λ (s : Said). made_words 0 s a.repairs.now) said;
      words = m.words ∙ ap (λ (s : Said). made_words zero_f s a.words.now) said;
    }
