-- `stage_log::Log::ends_fit` meets its contract: the newest span of each ring before number k ends in range. Assumes nothing.
use mathlib.Core.Path.{◌≡◌, refl, sym, ◌∙◌}
use Prim.Native.Nat.{◌*◌}
use native.Mathlib.Nat.{add-sub_cancel_left}
use native.Mathlib.Numerals.{add-one}
use native.Mathlib.Omega.{arith}
use borrow.Author.Rules.{rules}
use Rattle.stage_log.specs.View.{marks_at}
use Rattle.stage_log.specs.Check.{all_to, ends_fit}
use Rattle.stage_log.proofs.laws.LogLaws.{part_inside}
use Rattle.stage_log.proofs.laws.CheckLaws.{all_next, all_not, log_sound}
use Rattle.stage_log.proofs.Log.ends_fit.Invariants.{test}
use Rattle.stage_log.proofs.Log.ends_fit.Goals as goal
use Rattle.stage_log.proofs.Log.ends_fit.Goals.{After-end_fits}

pub loop-k-init : goal.loop-k-init
unfolding all_to
loop-k-init c = (omega arith, refl)

pub overflow_mul-a-in-loop-k : goal.overflow_mul-a-in-loop-k
overflow_mul-a-in-loop-k c = omega (arith, part_inside (c.args.capacity * 2) c.loop-k.k c.loop-k-test.true)

pub overflow_add-e : goal.overflow_add-e
overflow_add-e c = omega (arith, part_inside (c.args.capacity * 2) c.loop-k.k c.loop-k-test.true)

pub offset_bounds-spans-a : goal.offset_bounds-spans-a
offset_bounds-spans-a c = omega (arith, part_inside (c.args.capacity * 2) c.loop-k.k c.loop-k-test.true)

pub slice_bounds-end_fits-end : goal.slice_bounds-end_fits-end
slice_bounds-end_fits-end c =
    omega (arith, part_inside (c.args.capacity * 2) c.loop-k.k c.loop-k-test.true)

pub end_fits-requires : goal.end_fits-requires
unfolding marks_at
end_fits-requires c =
    let k = c.loop-k.k in
    rw (add-sub_cancel_left (k * (c.args.capacity * 2)) (c.args.capacity * 2))
    (log_sound c.args.capacity (record { log = c.args.self; spans = c.args.spans.now }) k c.requires.0 c.requires.1 c.loop-k-test.true)

-- the part's ring is ring number k
tested : (c : After-end_fits) → let a = c.args in
    test a.capacity (record { log = a.self; spans = a.spans.now }) c.loop-k.k ≡ c.end_fits.result
unfolding marks_at
tested c =
    let a = c.args in
    let k = c.loop-k.k in
    sym (rw (add-sub_cancel_left (k * (a.capacity * 2)) (a.capacity * 2)) at c.end_fits.ensures)

pub returns-then-not-end_fits : goal.returns-then-not-end_fits
unfolding ends_fit
returns-then-not-end_fits c =
    let a = c.args in
    let k = c.loop-k.k in
    sym (all_not (test a.capacity (record { log = a.self; spans = a.spans.now })) 12 k c.loop-k-test.true
    (tested (goal.at.returns-then-not-end_fits c).After-end_fits ∙ c.if-not-end_fits.true))

pub loop-k-preserved : goal.loop-k-preserved
loop-k-preserved c =
    let a = c.args in
    let l = c.loop-k in (
      search rules,
      rw (add-one l.k)
          (all_next (test a.capacity (record { log = a.self; spans = a.spans.now })) l.k l.invariant.1
          (tested (goal.at.loop-k-preserved c).After-end_fits ∙ c.if-not-end_fits.false)),
    )

pub returns : goal.returns
unfolding ends_fit
returns c =
    let l = c.loop-k in
    let e : l.k ≡ 12 = omega (arith, c.loop-k-test.false, l.invariant.0) in
    sym (rw e at l.invariant.1)
