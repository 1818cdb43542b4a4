-- `replay_report::write_report`: its parts, one behind the other, from the first place on. Assumes nothing.
use Rattle.std.proofs.Common.{sym, ◌∙◌, arith}
use Rattle.replay_text.proofs.laws.PutLaws.{added_as, added_then, added_first}
use Rattle.replay_report.proofs.laws.ShownLaws.{report_pieces}
use Rattle.replay_report.proofs.write_report.Goals as goal

pub returns : goal.returns
returns c =
    let a = c.args in
    let n = c.new-report.ensures in
    let added =
    added_as (report_pieces a.state.now a.spans.now a.replaced)
    (added_then c.put_samples.ensures (added_then c.put_counts.ensures (added_then c.put_spans.ensures c.put_rest.ensures))) in
    let w = added_first n.bytes n.length added in
    record {
      text = c.text-1.given.1.1 (sym (added.same_store ∙ n.same_store)) ∙ w.store;
      length = omega (arith, w.stop);
    }
