-- `chain_undo::undo_record` puts one original back a turn. Assumes nothing.
use Rattle.std.proofs.Common.{◌≡◌, refl, sym, ap, ◌∙◌, ℕ, ◌+◌, ◌≤◌, arith}
use Rattle.rules.specs.Impulse.{longest_run}
use Rattle.rules.specs.Lists.{at}
use Rattle.rules.specs.Undo.{undone}
use Rattle.rules.specs.Constants.{total_limit}
use Rattle.chain_undo.specs.Undoing.{record_in}
use Rattle.chain_undo.proofs.laws.Records.{record_fit, record_start, record_length, undone_step}
use Rattle.chain_undo.proofs.undo_record.Goals as goal
use Rattle.chain_undo.proofs.undo_record.Goals.{Start, In-loop-t}

-- the words read keep to number 5's rule
record Read (c : Start) : Type 0 where
  length : at c.args.repairs.now (c.args.place + 1) ≤ longest_run
  start : at c.args.repairs.now c.args.place ≤ total_limit

read : (c : Start) → Read c
read c =
    let ws = c.args.repairs.now in
    let place = c.args.place in
    let f = record_fit (record_in ws place) c.requires.place_value in
    let l = record_length ws place in
    let s = record_start ws place in
    record { length = omega (arith, f.short); start = omega (arith, f.early) }

pub loop-t-init : goal.loop-t-init
unfolding undone
loop-t-init c = refl

pub overflow_add-start : goal.overflow_add-start
overflow_add-start c = let r = read (goal.at.overflow_add-start c).Start in omega (arith, r.length, r.start)

pub overflow_add-place-in-loop-t : goal.overflow_add-place-in-loop-t
overflow_add-place-in-loop-t c = let r = read (goal.at.overflow_add-place-in-loop-t c).Start in omega (arith, r.length)

pub offset_bounds-repairs-place-in-loop-t : goal.offset_bounds-repairs-place-in-loop-t
offset_bounds-repairs-place-in-loop-t c = let r = read (goal.at.offset_bounds-repairs-place-in-loop-t c).Start in omega (arith, r.length)

pub bounds-repairs-place-in-loop-t : goal.bounds-repairs-place-in-loop-t
bounds-repairs-place-in-loop-t c = let r = read (goal.at.bounds-repairs-place-in-loop-t c).Start in omega (arith, r.length)

pub loop-t-preserved : goal.loop-t-preserved
loop-t-preserved c =
    let a = c.args in
    let l = c.loop-t in
    let r = read (goal.at.loop-t-preserved c).Start in
    undone_step a.first a.repairs.now a.place l.t a.samples.now l.samples _ (omega (arith, r.length)) l.invariant c.put_back.ensures

pub returns : goal.returns
returns c =
    let a = c.args in
    let l = c.loop-t in
    let e : l.t ≡ at a.repairs.now (a.place + 1) = omega arith in
    l.invariant
    ∙ ap (λ (n : ℕ). undone a.first (record_in a.repairs.now a.place) n a.samples.now) (e ∙ sym (record_length a.repairs.now a.place))
