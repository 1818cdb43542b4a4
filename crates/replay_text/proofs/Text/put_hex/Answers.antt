-- `replay_text::Text::put_hex`: the fewest digits, and no fewer than 16, are 16.
use Rattle.std.proofs.Common.{◌≡◌, arith}
use Rattle.replay_text.specs.Text.{hexadecimal}
use Rattle.replay_text.proofs.laws.DigitLaws.{fewest_most}
use Rattle.replay_text.proofs.Text.put_hex.Goals as goal

pub returns : goal.returns
unfolding hexadecimal
returns c =
    let d = c.hex-k in
    let n = c.args.n in
    let most = fewest_most 16 16 n d.result 16 (omega arith) (omega arith) (omega arith) d.ensures.len in
    let all : d.result ≡ 16 = omega (arith, d.ensures.len.0) in
    rw (d.ensures.digits, all) at c.put.ensures
