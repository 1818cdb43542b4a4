-- `chain_call::filter` runs DC and then IQ over what is ready. Assumes nothing.
use mathlib.Core.Path.{◌∙◌}
use lib.ListN.{take, drop}
use lib.Seq.{length-take-le}
use Rattle.rules.specs.Iq.{corrected_by}
use Rattle.iq.specs.View.{settled_of}
use Rattle.stage_mode.specs.View.{mode_of}
use Rattle.chain.specs.Stages.{blocked_by}
use Rattle.chain.proofs.laws.SliceLaws.{blocked_by_length, filtered}
use Rattle.chain_call.proofs.filter.Goals as goal

pub returns : goal.returns
returns c =
    let a = c.args in
    let front = blocked_by (mode_of a.mode) a.blocker.now (take a.ready a.samples.now) in
    let dc = c.remove_dc-clamped.ensures in
    record {
      after = dc.after;
      written =
          c.correct.ensures ∙ filtered (corrected_by (settled_of a.iq)) front (drop a.ready a.samples.now) _ a.ready dc.written
          (blocked_by_length (mode_of a.mode) a.blocker.now (take a.ready a.samples.now) ∙ length-take-le a.ready a.samples.now c.requires.ready_in_bounds);
    }
