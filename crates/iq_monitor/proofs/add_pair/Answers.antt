-- `iq_monitor::add_pair` adds the terms of channel k and of its mirror, whose product is the same. Assumes nothing.
use mathlib.Core.Path.{sym, ap, ◌∙◌}
use Prim.Native.Nat.{◌-◌}
use native.Mathlib.Omega.{arith}
use lib.ListN.{length}
use lib.Ieee.{binary64}
use Rattle.complex.specs.Complex.{power}
use Rattle.iq_monitor.specs.Words.{added_terms}
use Rattle.iq_monitor.proofs.Limit.{within_number}
use Rattle.iq_monitor.proofs.Products.{mirrored}
use Rattle.iq_monitor.proofs.add_pair.Goals as goal

pub wide-requires : goal.wide-requires
wide-requires c = within_number c.args.x.now _ c.requires.within (omega (arith, c.requires.k_positive))

pub returns : goal.returns
returns c =
    let a = c.args in
    let xs = a.x.now in
    let n = length xs in
    let t = c.terms_of-near.ensures in
    let near = c.add_terms.ensures ∙ (λ i. added_terms n a.words.now a.k (t.0 i) (t.1 i)) in
    let p = c.norm_sqr.ensures ∙ ap (power binary64) c.wide.ensures in
    let z = t.1 ∙ sym (mirrored xs a.k c.requires.k_positive (omega (arith, c.requires.k_below_mirror))) in
    c.add_terms-2.ensures ∙ (λ i. added_terms n (near i) (n - a.k) (p i) (z i))
