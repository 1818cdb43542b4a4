-- `impulse_arrays::occurs` meets its contract: whether it is one of the powers passed. Assumes nothing.
use mathlib.Core.Path.{◌≡◌, sym}
use mathlib.Core.Bool.{Bool, ◌||◌}
use mathlib.Core.List.{List}
use Prim.Native.Nat.{ℕ, suc, ◌+◌, ◌<◌}
use native.Mathlib.Omega.{arith}
use lib.ListN.{length, get_or, take}
use lib.Seq.{take_all}
use lib.Ieee.{Float, nan, eq}
use Rattle.rules.specs.Lists.{All}
use Rattle.impulse_window.specs.Rising.{Held}
use Rattle.impulse_window.proofs.Blends.{held_more}
use Rattle.impulse_arrays.specs.Occurs.{occurs}
use Rattle.impulse_arrays.proofs.Arranged.{occurs_none, occurs_more}
use Rattle.impulse_arrays.proofs.occurs.Goals as goal

-- the next one
next : (x : Float) (l : List Float) (k : ℕ) (so this : Bool) → k < length l → so ≡ occurs x (take k l) → All Held (take k l) → this ≡ eq x (get_or l k nan)
    → Held (get_or l k nan)
    → ((so || this) ≡ occurs x (take (k + 1) l)) × All Held (take (k + 1) l)
next x l k so this h e a f g =
    let one : k + 1 ≡ suc k = omega arith in
    rw one (rw (e, f) (sym (occurs_more x l k nan h)), held_more l k nan h a g)

pub loop-y-init : goal.loop-y-init
loop-y-init c = (sym (occurs_none c.args.x), tt)

pub loop-y-preserved : goal.loop-y-preserved
loop-y-preserved c =
    let l = c.args.window.now in
    let i = c.loop-y in
    let e = c.equal-found.ensures in
    let f = next c.args.x l i.y-index i.found c.equal-found.result (omega arith) i.invariant.0 i.invariant.1 e.result e.values.1 in
    (f.0, f.1)

pub returns : goal.returns
returns c =
    let l = c.args.window.now in
    let i = c.loop-y in
    let all : take i.y-index l ≡ l = take_all i.y-index l (omega arith) in
    record {
      result = rw all at i.invariant.0;
      values = rw all at i.invariant.1;
    }
