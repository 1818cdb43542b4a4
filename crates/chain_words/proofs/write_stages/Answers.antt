-- `chain_words::write_stages`: part by part. Assumes nothing.
use mathlib.Core.Path.{refl}
use mathlib.Core.List.{[], ◌++◌}
use Rattle.chain_words.specs.Words.{settings_words, gate_words, blocker_words}
use Rattle.chain_words.specs.Places as place
use Rattle.chain_words.proofs.Filling.{behind}
use Rattle.chain_words.proofs.write_stages.Goals as goal

pub returns : goal.returns
returns c =
    let s = c.args.state in
    let settings = settings_words s.settings in
    let gate = gate_words s.suppressor.gate in
    let blocker = blocker_words s.blocker in
    let one = c.settings_words in
    let two = c.gate_words in
    let three = c.blocker_words in
    let put = c.put in
    let put2 = c.put-2 in
    let put3 = c.put-3 in
    let w = put.new.words in
    let w2 = put2.new.words in
    let w3 = put3.new.words in
    let p = behind place.rate place.apply [] one.result settings
    c.args.words.now w
    refl one.ensures refl put.ensures.front in
    let p2 = behind place.apply place.factor settings two.result gate w w2 p two.ensures refl put2.ensures.front in
    let p3 = behind place.factor place.begun (settings ++ gate) three.result blocker w2 w3 p2 three.ensures refl put3.ensures.front in
    p3
