-- `impulse_window::is_near` meets its contract. Assumes nothing.
use borrow.Author.Rules.{rules}
use Rattle.impulse_window.proofs.is_near.Goals as goal

pub returns : goal.returns
returns c =
    record {
      result = simp (c.widen.ensures, c.widen-2.ensures);
      values = search rules;
    }
