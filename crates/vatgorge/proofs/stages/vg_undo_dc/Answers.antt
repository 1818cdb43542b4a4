-- `vatgorge::stages::vg_undo_dc`: `dc::revert_dc`, its place and its number told. Assumes nothing.
use mathlib.Core.Path.{ap, ◌∙◌}
use Rattle.rules.specs.Answers.{number_in}
use Rattle.vatgorge.specs.Stages.{place_after}
use Rattle.vatgorge.proofs.laws.Telling.{number_returned}
use Rattle.vatgorge.proofs.stages.vg_undo_dc.Goals as goal

pub returns : goal.returns
returns c =
    let e = c.revert_dc-answer.ensures in
    record {
      code = c.number.ensures ∙ number_returned c.revert_dc-answer.result ∙ ap number_in e.answer;
      out = e.written;
      place = c.tell_place.ensures ∙ ap (place_after _) e.answer;
    }
