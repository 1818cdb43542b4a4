-- `replay_report::put_rest`: what the log of the state says. Assumes nothing.
use mathlib.Core.List.{◌++◌}
use Rattle.iq.specs.View.{settled_of}
use Rattle.chain_log.specs.Reading.{log_of}
use Rattle.replay_text.proofs.laws.PutLaws.{added_as, added_then}
use Rattle.replay_report.specs.Lines.{dropped_line, level_line, settled_line}
use Rattle.replay_report.proofs.put_rest.Goals as goal

pub returns : goal.returns
unfolding log_of
returns c =
    let g = c.log-log.ensures in
    added_as (λ j. dropped_line (g.log j).dropped (g.log j).notes.repairs.dropped ++ (level_line (g.level j) ++ settled_line (settled_of (g.log j).iq)))
    (added_then c.put_dropped.ensures
    (added_then c.put_level.ensures c.put_settled.ensures))
