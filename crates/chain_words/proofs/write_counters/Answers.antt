-- `chain_words::write_counters`: part by part. Assumes nothing.
use mathlib.Core.Path.{refl}
use mathlib.Core.List.{◌++◌}
use lib.ListN.{take}
use Rattle.chain_words.specs.Words.{monitor_words, counts_words, notes_words}
use Rattle.chain_words.specs.Places as place
use Rattle.chain_words.proofs.Filling.{behind, two}
use Rattle.chain_words.proofs.write_counters.Goals as goal

pub returns : goal.returns
returns c =
    let s = c.args.state in
    let w₀ = c.args.words.now in
    let monitor = monitor_words s.monitor in
    let counts = counts_words s.counts in
    let notes = notes_words s.notes in
    let first = c.monitor_words in
    let second = c.counts_words in
    let third = c.notes_words in
    let put = c.put in
    let put2 = c.put-2 in
    let put3 = c.put-3 in
    let w = put.new.words in
    let w2 = put2.new.words in
    let w3 = put3.new.words in
    let p = behind place.begun place.seen (take place.begun w₀) first.result monitor w₀ w refl first.ensures refl put.ensures.front in
    let p2 = behind place.seen place.repair_ring (take place.seen w) second.result counts w w2 refl second.ensures refl put2.ensures.front in
    let p3 = behind place.repair_ring place.window (take place.repair_ring w2) third.result notes w2 w3 refl third.ensures refl put3.ensures.front in
    let all = two (take place.begun w₀) monitor (counts ++ notes) p (two (take place.seen w) counts notes p2 p3) in
    all
