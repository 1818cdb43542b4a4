-- `stage_log::lengthen` meets its contract. Assumes nothing.
use native.Mathlib.Omega.{arith}
use borrow.Author.Rules.{rules}
use Rattle.rules.specs.Log.{lengthened}
use Rattle.rules.proofs.laws.MarkLaws.{Newest, joins_so}
use Rattle.stage_log.specs.View.{ring_in}
use Rattle.stage_log.proofs.lengthen.Goals as goal
use Rattle.stage_log.proofs.lengthen.Goals.{Start}

-- there is a newest span, and it ends at start
newest : (c : Start) → let a = c.args in Newest a.capacity (ring_in a.ring a.words.now) a.span.start 0
newest c = let a = c.args in joins_so a.capacity (ring_in a.ring a.words.now) a.span.start c.requires.joins

pub newest_place-requires : goal.newest_place-requires
newest_place-requires c = let n = newest (goal.at.newest_place-requires c).Start in (n.some, search rules, search rules)

pub overflow_add-words : goal.overflow_add-words
overflow_add-words c =
    let n = rw (← c.newest_place.ensures.0) at (newest (goal.at.overflow_add-words c).Start).ends in
    omega (arith, n, c.requires.end)

pub returns : goal.returns
unfolding lengthened
returns c = rw (← c.newest_place.ensures.0)
