-- `stage_log::Ring::enter` meets its contract. Assumes nothing.
use mathlib.Core.Path.{sym, ap, ◌∙◌}
use mathlib.Core.List.{List, ◌++◌}
use Prim.Native.Nat.{ℕ, ◌+◌, ◌*◌, ◌≤◌}
use native.Mathlib.Nat.{add-sub_cancel_left, mul-le-mul_right, suc-mul}
use Rattle.std.proofs.Common.{zero-mul}
use native.Mathlib.Omega.{arith}
use lib.ListN.{length, take, drop}
use lib.Seq.{drop-drop}
use Rattle.rules.specs.Log.{write}
use Rattle.rules.proofs.laws.RingLaws.{write_split}
use Rattle.stage_log.proofs.Places.{Next, next_in, append_by}
use Rattle.stage_log.proofs.Ring.enter.Goals as goal
use Rattle.stage_log.proofs.Ring.enter.Goals.{After-with_room-roomy}

next : (c : After-with_room-roomy) → let a = c.args in Next (length a.entry.now) a.capacity c.with_room-roomy.result a.words.now
next c =
    let a = c.args in
    next_in (length a.entry.now) a.capacity a.self.now c.with_room-roomy.result a.words.now (c.with_room-roomy.ensures a.words.now) c.requires.open_ring.sound

pub next_place-requires : goal.next_place-requires
next_place-requires c =
    let n = next c in
    let a = c.args in
    (n.head_in, omega (arith, mul-le-mul_right a.capacity c.requires.some, suc-mul 0 a.capacity, zero-mul a.capacity))

pub with_one_more-requires : goal.with_one_more-requires
with_one_more-requires c =
    let n = next (goal.at.with_one_more-requires c).After-with_room-roomy in
    let a = c.args in
    omega (arith, mul-le-mul_right a.capacity c.requires.some, suc-mul 0 a.capacity, zero-mul a.capacity)

pub returns : goal.returns
returns c =
    let a = c.args in
    let k = next (goal.at.returns c).After-with_room-roomy in
    let n = length a.entry.now in
    let ws = a.words.now in
    let m = c.with_one_more.ensures in
    let here = c.next_place.ensures.0 in
    let p = c.next_place.result * n in
    let fits : p + n ≤ length ws = rw (← here) at k.inside in
    let put = (λ i. take p ws ++ (c.copy_from_slice.ensures.after i ++ drop (add-sub_cancel_left p n i) (drop p ws)))
    ∙ ap (λ (l : List ℕ). take p ws ++ (a.entry.now ++ l)) (drop-drop n p ws)
    ∙ sym (write_split ws p a.entry.now fits)
    ∙ ap (λ (j : ℕ). write ws (j * n) a.entry.now) here in
    (λ i. record {
      head = m.0 i;
      count = m.1 i;
      dropped = m.2 i;
      words = put i;
    })
    ∙ append_by n a.capacity a.self.now c.with_room-roomy.result ws (c.with_room-roomy.ensures ws) a.entry.now
