-- `chain_words::put_powers`: word by word. Assumes nothing.
use mathlib.Core.Path.{◌≡◌, sym, ◌∙◌}
use Prim.Native.Nat.{suc, ◌+◌}
use native.Mathlib.Omega.{arith}
use lib.Seq.{take_all}
use lib.ListN.{length, take, get_or-map}
use lib.Ieee.{nan}
use Rattle.rules.specs.Impulse.{window_size}
use Rattle.impulse_window.proofs.Blends.{held_more}
use Rattle.rules.proofs.laws.ListLaws.{length-map}
use Rattle.chain_words.specs.Words.{power_word, powers_words}
use Rattle.chain_words.proofs.Filling.{filled_none, filled_next, filled_all}
use Rattle.chain_words.proofs.put_powers.Goals as goal

pub loop-k-init : goal.loop-k-init
loop-k-init c =
    let a = c.args in
    (filled_none (powers_words a.powers.now) a.at a.words.now, tt)

pub loop-k-preserved : goal.loop-k-preserved
loop-k-preserved c =
    let a = c.args in
    let l = c.loop-k in
    let p = c.requires in
    let ps = a.powers.now in
    let n = length-map power_word ps in
    let e = get_or-map power_word ps l.k nan in
    let word = c.power_word.ensures.word ∙ sym e in
    let one : l.k + 1 ≡ suc l.k = omega arith in (
      filled_next (power_word nan) (powers_words ps) a.at a.words.now l.words l.k _ (omega arith) (omega arith) word l.invariant.0,
      rw one (held_more ps l.k nan (omega arith) l.invariant.1 c.power_word.ensures.held),
    )

pub returns : goal.returns
returns c =
    let a = c.args in
    let l = c.loop-k in
    let p = c.requires in
    let ps = a.powers.now in
    let n = length-map power_word ps in
    let h : length (powers_words ps) ≡ window_size = omega arith in
    let all : take l.k ps ≡ ps = take_all l.k ps (omega arith) in
    let front = filled_all 0 (powers_words ps) a.at a.words.now l.words l.k (omega arith) l.invariant.0 in
    record {
      front = rw h at front;
      sized = omega arith;
      held = rw all at l.invariant.1;
    }
