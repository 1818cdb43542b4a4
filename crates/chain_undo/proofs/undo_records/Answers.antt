-- `chain_undo::undo_records` undoes one record a turn, oldest first. Assumes nothing.
use Rattle.std.proofs.Common.{◌≡◌, refl, sym, ap, ◌∙◌, List, ℕ, arith}
use Rattle.rules.specs.Lists.{up_to}
use Rattle.rules.specs.Undo.{undone_all}
use Rattle.stage_log.specs.View.{ring_in}
use Rattle.chain_undo.proofs.laws.Records.{held_are, each_fits, undone_next}
use Rattle.chain_undo.proofs.undo_records.Invariants.{held_in}
use Rattle.chain_undo.proofs.undo_records.Goals as goal

pub loop-i-init : goal.loop-i-init
unfolding undone_all up_to
loop-i-init c = refl

pub undo_record-requires-clause-place_value : goal.undo_record-requires-clause-place_value
undo_record-requires-clause-place_value c =
    each_fits c.args.capacity (ring_in c.args.ring c.args.repairs.now) c.loop-i.i c.requires.repairs_value c.loop-i-test.true

pub loop-i-preserved : goal.loop-i-preserved
loop-i-preserved c =
    let a = c.args in
    let l = c.loop-i in
    undone_next a.first (held_in a.repairs.now a.capacity a.ring.head) l.i a.samples.now l.samples _ l.invariant c.undo_record.ensures

pub returns : goal.returns
returns c =
    let a = c.args in
    let l = c.loop-i in
    let e : l.i ≡ a.ring.count = omega arith in
    l.invariant
    ∙ ap (λ (n : ℕ). undone_all a.first (up_to (held_in a.repairs.now a.capacity a.ring.head) n) a.samples.now) e
    ∙ ap (λ (es : List (List ℕ)). undone_all a.first es a.samples.now) (sym (held_are a.capacity (ring_in a.ring a.repairs.now)))
