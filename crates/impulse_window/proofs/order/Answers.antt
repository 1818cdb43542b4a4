-- `impulse_window::order` meets its contract. Assumes nothing.
use mathlib.Core.Path.{sym, ◌∙◌, subst}
use lib.Dec.{T}
use lib.Ieee.{of_bits}
use borrow.Author.Tests.{lt-ltb, le-ltb}
use Rattle.rules.specs.Impulse.{window_size}
use Rattle.impulse_window.specs.Ordered.{ordered}
use Rattle.impulse_window.proofs.Blends.{rises}
use Rattle.impulse_window.proofs.order.Goals as goal

pub returns-then-i : goal.returns-then-i
unfolding ordered
returns-then-i c =
    let a = c.args in
    record {
      result = rw (lt-ltb a.i window_size c.if-i.true) c.grow.ensures;
      rising = λ e. absurd (subst T (sym e) tt);
    }

pub replace-requires : goal.replace-requires
replace-requires c =
    let a = c.args in
    let e = c.ascends.ensures in
    rises a.sorted.now e.values (sym e.result ∙ c.if-ascends.true)

pub returns-then-ascends : goal.returns-then-ascends
unfolding ordered of_bits
returns-then-ascends c =
    let a = c.args in
    let r = c.replace.ensures in
    record {
      result = rw (le-ltb a.i window_size c.if-i.false) r.result;
      rising = λ e. r.rising (sym c.at_most.ensures.result ∙ e);
    }

pub returns : goal.returns
unfolding ordered
returns c =
    let a = c.args in
    record {
      result = rw (le-ltb a.i window_size c.if-i.false) c.exchange.ensures;
      rising = λ e. absurd (subst T (sym e) tt);
    }
