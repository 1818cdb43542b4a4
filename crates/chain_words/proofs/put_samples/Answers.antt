-- `chain_words::put_samples`: count by count. Assumes nothing.
use mathlib.Core.Path.{◌≡◌, sym}
use Prim.Native.Nat.{ℕ}
use native.Mathlib.Omega.{arith}
use lib.ListN.{length, get_or-map}
use Rattle.rules.proofs.laws.ListLaws.{length-map}
use Rattle.stage_log.specs.declared.Marks.{Marks}
use Rattle.stage_log.specs.View.{fresh_marks}
use Rattle.chain_words.specs.Words.{samples_words}
use Rattle.chain_words.proofs.Filling.{filled_none, filled_next, filled_all}
use Rattle.chain_words.proofs.put_samples.Goals as goal

abbrev samples : Marks → ℕ
samples m = m.samples

pub loop-k-init : goal.loop-k-init
loop-k-init c = filled_none (samples_words c.args.log.marks) c.args.at c.args.words.now

pub loop-k-preserved : goal.loop-k-preserved
loop-k-preserved c =
    let a = c.args in
    let l = c.loop-k in
    let p = c.requires in
    let n : length a.log.marks ≡ 12 = c.well_formed.0.1.1.0.1.0.1 in
    let m = length-map samples a.log.marks in
    let e = get_or-map samples a.log.marks l.k fresh_marks in
    filled_next 0 (samples_words a.log.marks) a.at a.words.now l.words l.k _ (omega arith) (omega arith) (sym e) l.invariant

pub returns : goal.returns
returns c =
    let a = c.args in
    let l = c.loop-k in
    let n : length a.log.marks ≡ 12 = c.well_formed.0.1.1.0.1.0.1 in
    let m = length-map samples a.log.marks in
    let h : length (samples_words a.log.marks) ≡ 12 = omega arith in
    let front = filled_all 0 (samples_words a.log.marks) a.at a.words.now l.words l.k (omega arith) l.invariant in
    record {
      front = rw h at front;
      sized = l.invariant.1;
    }
