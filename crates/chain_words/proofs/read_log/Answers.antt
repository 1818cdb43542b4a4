-- `chain_words::read_log`: ring by ring. Assumes nothing.
use mathlib.Core.Path.{refl, sym, ap, ◌∙◌}
use mathlib.Core.List.{List}
use Prim.Native.Nat.{◌+◌}
use native.Mathlib.Omega.{arith}
use lib.ListN.{drop}
use Rattle.stage_log.specs.declared.Marks.{Marks}
use Rattle.stage_log.specs.View.{fresh_marks}
use Rattle.chain_words.proofs.laws.Rings.{marks_length, marks_there}
use Rattle.chain_words.specs.States.{word, marks_in}
use Rattle.chain_words.specs.Places as place
use Rattle.chain_words.proofs.Filling.{made_next, made_all}
use Rattle.chain_words.proofs.read_log.Goals as goal

pub loop-k-init : goal.loop-k-init
loop-k-init c =
    let w = c.args.words.now in
    let n = marks_length 12 (drop place.rings w) (drop place.counts w) in
    (omega arith, sym n, refl)

pub loop-k-preserved : goal.loop-k-preserved
loop-k-preserved c =
    let l = c.loop-k in
    let w = c.args.words.now in
    let n = marks_length 12 (drop place.rings w) (drop place.counts w) in
    let e = (λ i. record { samples = word w (place.counts + l.k); ring = c.read_ring.ensures i })
    ∙ sym (marks_there place.rings place.counts 12 l.k w fresh_marks (omega arith)) in
    made_next fresh_marks (marks_in 12 (drop place.rings w) (drop place.counts w)) l.ring-items l.k _ (omega arith) e l.invariant

pub returns : goal.returns
returns c =
    let l = c.loop-k in
    let w = c.args.words.now in
    let n = marks_length 12 (drop place.rings w) (drop place.counts w) in
    let m = made_all fresh_marks (marks_in 12 (drop place.rings w) (drop place.counts w)) l.ring-items l.k (omega arith) l.invariant in
    ap (λ (ms : List Marks). record { marks = ms }) m
