-- `chain_make::with_geometry`: the answer, the state and the words by what making says. Assumes nothing.
use mathlib.Core.Path.{sym, ap, ◌∙◌}
use mathlib.Core.Bool.{true, false}
use lib.ListN.{length}
use Rattle.std.proofs.lemmas.Result.{err_from_is_err_and}
use Rattle.rules.specs.Constants.{zero_f}
use Rattle.chain_config.specs.Config.{config_of}
use Rattle.chain_make.specs.Making.{Said, numbered, made_words}
use Rattle.chain_make.proofs.laws.MakingLaws.{said_by, numbered_refusal}
use Rattle.chain_make.proofs.with_geometry.Goals as goal

pub returns-then-is_off : goal.returns-then-is_off
returns-then-is_off c =
    let a = c.args in
    let e = said_by (config_of a.config) (length a.spans.now) (length a.repairs.now) (length a.words.now) true (sym c.is_off.ensures ∙ c.if-is_off.true) in
    record {
      answer = sym e;
      state = tt;
      spans = sym (ap (λ (s : Said). made_words 0 s a.spans.now) e);
      repairs = sym (ap (λ (s : Said). made_words 0 s a.repairs.now) e);
      words = sym (ap (λ (s : Said). made_words zero_f s a.words.now) e);
    }

pub returns-in_err-fits : goal.returns-in_err-fits
returns-in_err-fits c =
    let a = c.args in
    let e =
    said_by (config_of a.config) (length a.spans.now) (length a.repairs.now) (length a.words.now) false (sym c.is_off.ensures ∙ c.if-is_off.false)
    ∙ ap numbered (sym c.in_err-fits.ensures)
    ∙ numbered_refusal c.in_err-fits.field-0.0 in
    let p = err_from_is_err_and c.from_residual.result c.from_residual.ensures.1 in
    record {
      answer = rw (p.1, p.2) (sym e);
      state = rw p.1 tt;
      spans = sym (ap (λ (s : Said). made_words 0 s a.spans.now) e);
      repairs = sym (ap (λ (s : Said). made_words 0 s a.repairs.now) e);
      words = sym (ap (λ (s : Said). made_words zero_f s a.words.now) e);
    }

pub returns : goal.returns
returns c =
    let a = c.args in
    let e =
    said_by (config_of a.config) (length a.spans.now) (length a.repairs.now) (length a.words.now) false (sym c.is_off.ensures ∙ c.if-is_off.false)
    ∙ ap numbered (sym c.in_ok-fits.ensures) in
    record {
      answer = sym e;
      state = c.fresh_state.ensures;
      spans = c.fill.ensures.after (λ y h. h) ∙ sym (ap (λ (s : Said). made_words 0 s a.spans.now) e);
      repairs = c.fill-2.ensures.after (λ y h. h) ∙ sym (ap (λ (s : Said). made_words 0 s a.repairs.now) e);
      words = c.fill-3.ensures.after (λ y h. h) ∙ sym (ap (λ (s : Said). made_words zero_f s a.words.now) e);
    }
