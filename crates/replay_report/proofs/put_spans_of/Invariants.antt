-- `replay_report::put_spans_of`: the spans before number i stand behind the text. Assumes nothing.
use lib.ListN.{take}
use Rattle.rules.specs.Log.{ring_number}
use Rattle.stage_log.specs.View.{stage_of, mark_of}
use Rattle.replay_text.specs.Text.{Added}
use Rattle.replay_report.specs.Report.{span_lines_of}
use Rattle.replay_report.specs.Shown.{shown_spans}
use Rattle.replay_report.proofs.put_spans_of.Given as goal

abbrev pub invariant-loop-i : goal.invariant-loop-i
invariant-loop-i l =
    Added l.initial.text (span_lines_of (stage_of l.stage) (mark_of l.kind) (take l.i (shown_spans l.state l.spans (ring_number (stage_of l.stage) (mark_of l.kind))))) l.text
