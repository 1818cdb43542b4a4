-- `chain_log::read_span`: the part of ring number which is lent on. Assumes nothing.
use Prim.Native.Nat.{◌*◌}
use native.Mathlib.Nat.{add-sub_cancel_left}
use native.Mathlib.Omega.{arith}
use lib.ListN.{length}
use Rattle.stage_log.specs.View.{marks_at}
use Rattle.stage_log.specs.Check.{ring_of}
use Rattle.stage_log.proofs.laws.LogLaws.{part_inside}
use Rattle.chain_log.proofs.laws.ReadingLaws.{Store, store_is, has_is, read_sound}
use Rattle.chain_log.proofs.read_span.Goals as goal
use Rattle.chain_log.proofs.read_span.Goals.{Start}

store : (c : Start) → Store c.args.capacity (length c.args.spans.now)
store c = store_is c.args.capacity (length c.args.spans.now) c.requires.which_bound.1

pub overflow_mul-a : goal.overflow_mul-a
overflow_mul-a c = omega (arith, (store (goal.at.overflow_mul-a c).Start).few)

pub overflow_mul-a-2 : goal.overflow_mul-a-2
overflow_mul-a-2 c = omega (arith, (store (goal.at.overflow_mul-a-2 c).Start).few, part_inside (c.args.capacity * 2) c.args.which c.requires.which_bound.0)

pub overflow_mul-e : goal.overflow_mul-e
overflow_mul-e c = omega (arith, (store (goal.at.overflow_mul-e c).Start).few)

pub overflow_add-e : goal.overflow_add-e
overflow_add-e c = omega (arith, (store (goal.at.overflow_add-e c).Start).few, part_inside (c.args.capacity * 2) c.args.which c.requires.which_bound.0)

pub offset_bounds-spans-a : goal.offset_bounds-spans-a
offset_bounds-spans-a c =
    omega (
      arith,
      (store (goal.at.offset_bounds-spans-a c).Start).few,
      part_inside (c.args.capacity * 2) c.args.which c.requires.which_bound.0,
    )

pub slice_bounds-span_at-end : goal.slice_bounds-span_at-end
slice_bounds-span_at-end c =
    omega (
      arith,
      (store (goal.at.slice_bounds-span_at-end c).Start).long,
      part_inside (c.args.capacity * 2) c.args.which c.requires.which_bound.0,
    )

pub span_at-requires : goal.span_at-requires
unfolding marks_at
span_at-requires c =
    let a = c.args in
    let h = has_is a.capacity (ring_of a.log.now a.which) a.i c.requires.which_value in
    record {
      sound =
          rw (add-sub_cancel_left (a.which * (a.capacity * 2)) (a.capacity * 2))
          (read_sound a.capacity (record { log = a.log.now; spans = a.spans.now }) a.which c.requires.which_bound.1 h.0 c.requires.which_bound.0);
      i_lt_count = h.1;
    }

pub returns : goal.returns
unfolding marks_at
returns c =
    let a = c.args in
    rw (add-sub_cancel_left (a.which * (a.capacity * 2)) (a.capacity * 2)) at c.span_at.ensures
