-- `impulse::ImpulseSuppressor::verdict` meets its contract. Assumes nothing.
use borrow.Author.Tests.{lt-ltb, le-ltb}
use Rattle.rules.specs.Impulse.{half_window}
use Rattle.impulse.specs.Machine.{verdict}
use Rattle.impulse.proofs.ImpulseSuppressor.verdict.Goals as goal

pub returns-then-i : goal.returns-then-i
unfolding verdict
returns-then-i c = let t = lt-ltb c.args.i half_window c.if-i.true in
    record {
      result = simp t;
      state = simp t;
    }

pub returns : goal.returns
unfolding verdict
returns c = let t = le-ltb c.args.i half_window c.if-i.false in
    record {
      result = simp (t, c.judge.ensures.result);
      state = simp (t, c.judge.ensures.state);
    }
