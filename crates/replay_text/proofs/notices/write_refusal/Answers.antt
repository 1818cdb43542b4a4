-- `replay_text::notices::write_refusal`: from the first place on.
use Rattle.std.proofs.Common.{sym, ◌∙◌, arith}
use Rattle.replay_text.specs.Text.{letters, line}
use Rattle.replay_text.specs.Notices.{refused_text}
use Rattle.replay_text.proofs.laws.PutLaws.{added_first}
use Rattle.replay_text.proofs.notices.write_refusal.Goals as goal

pub returns : goal.returns
unfolding letters line refused_text
returns c =
    let n = c.new-line.ensures in
    let w = added_first n.bytes n.length c.put_number.ensures in
    record {
      text = c.text-1.given.1.1 (sym (c.put_number.ensures.same_store ∙ n.same_store)) ∙ w.store;
      length = omega (arith, w.stop);
    }
