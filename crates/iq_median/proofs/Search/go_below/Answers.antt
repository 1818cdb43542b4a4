-- `iq_median::Search::go_below` keeps the words below p. Assumes nothing.
use mathlib.Core.Path.{◌≡◌, refl, sym}
use Prim.Native.Nat.{◌+◌, ◌-◌}
use native.Mathlib.Omega.{arith}
use lib.ListN.{drop}
use lib.Seq.{length-take-le}
use lib.Ieee.{lt}
use borrow.Author.Rules.{rules}
use Rattle.iq_median.specs.declared.Search.{Search}
use Rattle.iq_median.proofs.Selecting.{in_front, narrowed_below}
use Rattle.iq_median.proofs.Search.go_below.Goals as goal

pub slice_bounds-keep-end-2 : goal.slice_bounds-keep-end-2
slice_bounds-keep-end-2 c = sym (length-take-le c.args.self.now.count c.args.part.now c.requires.turning.window.most)

pub returns : goal.returns
returns c =
    let a = c.args in
    let k = c.keep-self in
    let t : Search = record { count = k.result; place = a.self.now.place; low = a.self.now.low; high = c.to_bits64-self.result; left = a.self.now.left - 1 } in
    let f = in_front k.new.part (drop a.self.now.count a.part.now) _ k.result _ k.ensures.most k.auto.part (k.ensures.kept (λ x. lt x a.p) (λ x b e. search rules)) in
    let left : a.self.now.left - 1 + 1 ≡ a.self.now.left = omega (arith, c.requires.turning.turns) in
    narrowed_below a.part.now _ a.self.now t a.p c.requires.turning left f.0 f.1 c.requires.among refl
