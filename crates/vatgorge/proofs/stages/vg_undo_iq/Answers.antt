-- `vatgorge::stages::vg_undo_iq`: `iq_correction::revert_iq`, its place and its number told. Assumes nothing.
use mathlib.Core.Path.{ap, ◌∙◌}
use Rattle.rules.specs.Answers.{number_in}
use Rattle.vatgorge.specs.Stages.{place_after}
use Rattle.vatgorge.proofs.laws.Telling.{number_returned}
use Rattle.vatgorge.proofs.stages.vg_undo_iq.Goals as goal

pub returns : goal.returns
returns c =
    let e = c.revert_iq-answer.ensures in
    record {
      code = c.number.ensures ∙ number_returned c.revert_iq-answer.result ∙ ap number_in e.answer;
      samples = e.written;
      place = c.tell_place.ensures ∙ ap (place_after _) e.answer;
    }
