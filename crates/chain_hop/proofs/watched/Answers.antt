-- `chain_hop::watched`: by whether IQ is off. Assumes nothing.
use mathlib.Core.Path.{sym, ◌∙◌}
use mathlib.Core.Bool.{true, false}
use Rattle.chain_hop.proofs.laws.HopLaws.{watched_by}
use Rattle.chain_hop.proofs.watched.Goals as goal

pub returns-then-is_off-clause-seen : goal.returns-then-is_off-clause-seen
returns-then-is_off-clause-seen c =
    let a = c.args in
    sym (watched_by a.state.now a.x.now a.start a.words.now true (sym c.is_off.ensures ∙ c.if-is_off.true))

pub returns-clause-seen : goal.returns-clause-seen
returns-clause-seen c =
    let a = c.args in
    c.observe.ensures.seen ∙ sym (watched_by a.state.now a.x.now a.start a.words.now false (sym c.is_off.ensures ∙ c.if-is_off.false))
