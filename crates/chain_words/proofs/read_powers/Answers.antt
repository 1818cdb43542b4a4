-- `chain_words::read_powers`: word by word. Assumes nothing.
use mathlib.Core.Path.{refl, sym, ◌∙◌}
use native.Mathlib.Omega.{arith}
use lib.ListN.{get_or-map}
use Rattle.rules.specs.Impulse.{window_size}
use Rattle.rules.proofs.laws.ListLaws.{length-map}
use Rattle.chain_words.specs.States.{part, power_of, powers_in}
use Rattle.chain_words.proofs.Filling.{made_next, made_all, get_d_part, part_length}
use Rattle.chain_words.proofs.read_powers.Goals as goal

pub loop-k-init : goal.loop-k-init
loop-k-init c =
    let a = c.args in
    let p = c.requires in
    let n = length-map power_of (part a.at window_size a.words.now) ∙ part_length a.at window_size a.words.now (omega arith) in
    (omega arith, sym n, refl)

pub loop-k-preserved : goal.loop-k-preserved
loop-k-preserved c =
    let a = c.args in
    let l = c.loop-k in
    let p = c.requires in
    let ws = part a.at window_size a.words.now in
    let m = part_length a.at window_size a.words.now (omega arith) in
    let n = length-map power_of ws ∙ m in
    let e = get_or-map power_of ws l.k 0 in
    let g = get_d_part a.at window_size l.k a.words.now 0 (omega arith) in
    made_next (power_of 0) (powers_in a.at a.words.now) l.power-items l.k _ (omega arith) (c.power_of.ensures ∙ rw (e, g)) l.invariant

pub returns : goal.returns
returns c =
    let a = c.args in
    let l = c.loop-k in
    let p = c.requires in
    let n = length-map power_of (part a.at window_size a.words.now) ∙ part_length a.at window_size a.words.now (omega arith) in
    made_all (power_of 0) (powers_in a.at a.words.now) l.power-items l.k (omega arith) l.invariant
