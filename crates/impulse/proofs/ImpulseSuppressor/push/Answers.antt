-- `impulse::ImpulseSuppressor::push` meets its contract. Assumes nothing.
use Rattle.impulse.specs.Machine.{push}
use Rattle.impulse.proofs.ImpulseSuppressor.push.Goals as goal

pub returns : goal.returns
unfolding push
returns c =
    let t = c.take_in-rising.ensures in
    let h = c.hold-out.ensures in
    let v = c.verdict-d.ensures in
    record {
      result = simp (v.result, c.released-answer.ensures, h.result, h.words, t.powers, t.ascending);
      state = simp (v.state, h.words, t.powers, t.ascending);
    }
