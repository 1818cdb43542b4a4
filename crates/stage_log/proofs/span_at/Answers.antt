-- `stage_log::span_at` meets its contract. Assumes nothing.
use mathlib.Core.Path.{sym}
use Prim.Native.Nat.{◌+◌, ◌*◌, ◌%◌, ◌≤◌}
use native.Mathlib.Nat.{mod-lt}
use native.Mathlib.Omega.{arith}
use lib.ListN.{length}
use Rattle.rules.specs.Log.{span_of, spans_of, span_in}
use Rattle.rules.proofs.laws.ListLaws.{get_d_up_to}
use Rattle.rules.proofs.laws.RingLaws.{place_fits}
use Rattle.stage_log.proofs.span_at.Goals as goal
use Rattle.stage_log.proofs.span_at.Goals.{Start}

-- the span's words are in the slice
inside : (c : Start) → let a = c.args in (a.ring.head + a.i) % a.capacity * 2 + 2 ≤ length a.words.now
inside c =
    let a = c.args in
    omega (arith, place_fits 2 a.capacity ((a.ring.head + a.i) % a.capacity) (mod-lt (a.ring.head + a.i) c.requires.sound.some), c.requires.sound.long)

pub overflow_mul-place : goal.overflow_mul-place
overflow_mul-place c = omega (arith, inside (goal.at.overflow_mul-place c).Start)

pub offset_bounds-words-place : goal.offset_bounds-words-place
offset_bounds-words-place c = omega (arith, inside (goal.at.offset_bounds-words-place c).Start)

pub bounds-words-place : goal.bounds-words-place
bounds-words-place c = omega (arith, inside (goal.at.bounds-words-place c).Start)

pub overflow_add-result : goal.overflow_add-result
overflow_add-result c = omega (arith, inside (goal.at.overflow_add-result c).Start)

pub offset_bounds-words-place-2 : goal.offset_bounds-words-place-2
offset_bounds-words-place-2 c = omega (arith, inside (goal.at.offset_bounds-words-place-2 c).Start)

pub bounds-words-place-2 : goal.bounds-words-place-2
bounds-words-place-2 c = omega (arith, inside (goal.at.bounds-words-place-2 c).Start)

pub returns : goal.returns
unfolding spans_of
returns c =
    let a = c.args in
    sym (get_d_up_to (span_of 0 0) (λ j. span_in a.words.now ((a.ring.head + j) % a.capacity)) a.ring.count a.i c.requires.i_lt_count)
