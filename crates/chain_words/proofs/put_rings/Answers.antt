-- `chain_words::put_rings`: ring by ring. Assumes nothing.
use mathlib.Core.List.{List, ◌++◌, append-nil}
use mathlib.Core.Path.{◌≡◌, refl, sym, ap, ◌∙◌}
use Prim.Native.Nat.{ℕ, ◌+◌, ◌*◌}
use native.Mathlib.Omega.{arith}
use lib.Seq.{take_all}
use lib.ListN.{length, get_or, take}
use borrow.Author.Rules.{rules}
use Rattle.stage_log.specs.View.{fresh_marks}
use Rattle.chain_words.proofs.laws.Rings.{rings_next, rings_none}
use Rattle.chain_words.specs.Words.{ring_words, rings_words}
use Rattle.chain_words.proofs.Filling.{behind, two}
use Rattle.chain_words.proofs.put_rings.Goals as goal

pub loop-k-init : goal.loop-k-init
loop-k-init c =
    let a = c.args in
    let w = take a.at a.words.now in
    let e : a.at + 0 * 3 ≡ a.at = omega arith in
    (omega arith, refl, ap (λ (i : ℕ). take i a.words.now) e ∙ sym (ap (λ (l : List ℕ). w ++ l) (rings_none a.log.marks) ∙ append-nil w))

pub put-requires : goal.put-requires
put-requires c =
    let l = c.loop-k in
    let n : length c.ring_words.result ≡ 3 = search rules in
    let p = c.requires in
    omega arith

pub loop-k-preserved : goal.loop-k-preserved
loop-k-preserved c =
    let l = c.loop-k in
    let at = c.args.at in
    let marks = c.args.log.marks in
    let n : length marks ≡ 12 = c.well_formed.0.1.1.0.1.0.1 in
    let r = c.ring_words in
    let put = c.put in
    let ring = ring_words (get_or marks l.k fresh_marks).ring in
    let w = take at c.args.words.now in
    let here = at + l.k * 3 in
    let front = take here l.words in
    let next = behind here (at + (l.k + 1) * 3) front r.result ring l.words put.new.words refl r.ensures (omega arith) put.ensures.front in
    let more = ap (λ (z : List ℕ). w ++ z) (sym (rings_next marks l.k fresh_marks (omega arith))) in
    (omega arith, put.ensures.sized ∙ l.invariant.1, two w (rings_words (take l.k marks)) ring l.invariant.2 next ∙ more)

pub returns : goal.returns
returns c =
    let l = c.loop-k in
    let marks = c.args.log.marks in
    let n : length marks ≡ 12 = c.well_formed.0.1.1.0.1.0.1 in
    let e : l.k ≡ 12 = omega arith in
    let whole : take l.k marks ≡ marks = take_all l.k marks (omega arith) in
    record {
      front = rw (whole, e) at l.invariant.2;
      sized = l.invariant.1;
    }
