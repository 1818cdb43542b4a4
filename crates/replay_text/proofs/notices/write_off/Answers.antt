-- `replay_text::notices::write_off`: from the first place on.
use Rattle.std.proofs.Common.{sym, ◌∙◌, arith}
use Rattle.replay_text.specs.Text.{letters, line}
use Rattle.replay_text.specs.Notices.{off_text}
use Rattle.replay_text.proofs.laws.PutLaws.{added_first}
use Rattle.replay_text.proofs.notices.write_off.Goals as goal

pub returns : goal.returns
unfolding letters line off_text
returns c =
    let n = c.new-line.ensures in
    let w = added_first n.bytes n.length c.put.ensures in
    record {
      text = c.text-1.given.1.1 (sym (c.put.ensures.same_store ∙ n.same_store)) ∙ w.store;
      length = omega (arith, w.stop);
    }
