-- `stage_log::Log::mark_at` meets its contract. Assumes nothing.
use mathlib.Core.Path.{ap}
use Prim.Native.Nat.{ℕ, ◌+◌, ◌*◌, ◌≤◌, ◌<◌}
use native.Mathlib.Nat.{mul-le-mul_right, suc-mul, add-sub_cancel_left}
use native.Mathlib.Omega.{arith}
use Rattle.stage_log.specs.View.{marks_at, with_marks, marked_at}
use Rattle.stage_log.proofs.Log.mark_at.Goals as goal

-- part k of twelve lies in the store
within : (k size : ℕ) → k < 12 → k * size + size ≤ size * 12
within k size h = omega (arith, mul-le-mul_right size h, suc-mul k size)

pub overflow_mul-a-2 : goal.overflow_mul-a-2
overflow_mul-a-2 c = omega (arith, within c.args.which (c.args.capacity * 2) c.requires.which_bound)

pub overflow_add-e : goal.overflow_add-e
overflow_add-e c = omega (arith, within c.args.which (c.args.capacity * 2) c.requires.which_bound)

pub offset_bounds-spans-a : goal.offset_bounds-spans-a
offset_bounds-spans-a c =
    omega (arith, within c.args.which (c.args.capacity * 2) c.requires.which_bound)

pub slice_bounds-mark-end : goal.slice_bounds-mark-end
slice_bounds-mark-end c =
    omega (arith, within c.args.which (c.args.capacity * 2) c.requires.which_bound)

pub mark-requires : goal.mark-requires
unfolding marks_at
mark-requires c =
    rw add-sub_cancel_left c.requires.fits.marks

pub returns : goal.returns
unfolding marked_at with_marks marks_at
returns c =
    let a = c.args in
    let size = a.capacity * 2 in
    let part = add-sub_cancel_left (a.which * size) size in
    rw part (ap (with_marks a.capacity (record { log = a.self.now; spans = a.spans.now }) a.which)
    (rw part at c.mark.ensures))
