-- `replay_text::Text::put_decimal`: the fewest digits are the decimal text.
use Rattle.std.proofs.Common.{◌∙◌, arith}
use Rattle.replay_text.proofs.laws.DigitLaws.{fewest_most, fewest_decimal}
use Rattle.replay_text.proofs.Text.put_decimal.Goals as goal

pub returns : goal.returns
returns c =
    let d = c.decimal-k in
    let n = c.args.n in
    let few = fewest_most 10 1 n d.result 20 (omega arith) (omega arith) (omega arith) d.ensures.len in
    rw (d.ensures.digits ∙ fewest_decimal 20 n d.result few d.ensures.len) at c.put.ensures
