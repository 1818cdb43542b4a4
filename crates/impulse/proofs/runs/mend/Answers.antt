-- `impulse::runs::mend` meets its contract: after t turns the first t samples of the run are mended. Assumes nothing.
use mathlib.Core.Path.{◌≡◌, refl, ap, ◌∙◌}
use mathlib.Core.List.{List}
use Prim.Native.Nat.{ℕ, ◌+◌, ◌%◌}
use native.Mathlib.Omega.{arith}
use native.Mathlib.Numerals.{add-one}
use lib.ListN.{set}
use Rattle.rules.specs.Impulse.{lookahead_size}
use Rattle.impulse.specs.Machine.{mended_word, write_run}
use Rattle.impulse.proofs.runs.mend.Goals as goal

begun : (size : ℕ) (l : List ℕ) (left right a n : ℕ) → l ≡ write_run size l left right a n 0
unfolding write_run
begun size l left right a n = refl

more : (size : ℕ) (l l₀ : List ℕ) (left right a n t w : ℕ) → l ≡ write_run size l₀ left right a n t → w ≡ mended_word left right t n
    → set l ((a + t) % size) w ≡ write_run size l₀ left right a n (t + 1)
unfolding write_run
more size l l₀ left right a n t w e g = rw (e, g, add-one)

pub loop-t-init : goal.loop-t-init
loop-t-init c = begun lookahead_size c.args.pending.now c.args.left c.args.right c.args.start c.args.n

pub loop-t-preserved : goal.loop-t-preserved
loop-t-preserved c =
    let i = c.loop-t in
    let a = c.args in
    rw c.place.ensures
    (more lookahead_size i.pending a.pending.now a.left a.right a.start a.n i.t c.mended_word.result i.invariant c.mended_word.ensures)

pub returns : goal.returns
returns c =
    let i = c.loop-t in
    let a = c.args in
    let e : i.t ≡ a.n = omega arith in
    i.invariant ∙ ap (write_run lookahead_size a.pending.now a.left a.right a.start a.n) e
