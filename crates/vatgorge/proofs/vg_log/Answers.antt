-- `vatgorge::vg_log`: the numbers, then the rings and the counts. Assumes nothing.
use mathlib.Core.List.{List, [], ◌++◌}
use mathlib.Core.Path.{◌≡◌, refl, sym, ap, ◌∙◌}
use Prim.Native.Nat.{ℕ, ◌≤◌}
use native.Mathlib.Omega.{arith}
use lib.Seq.{take_all}
use lib.ListN.{length}
use Rattle.chain_words.proofs.Filling.{behind}
use Rattle.chain_words.specs.Words as words
use Rattle.chain_log.specs.Reading.{log_of}
use Rattle.vatgorge.specs.Log.{number_count, word_count, number_words, log_words}
use Rattle.vatgorge.proofs.vg_log.Goals as goal

pub returns : goal.returns
returns c =
    let l = c.log-l.result in
    let out = c.args.out.now in
    let numbers = c.log_numbers in
    let put = c.put in
    let rest = c.put_log in
    let end = rest.new.words in
    let log = words.log_words l.notes.log in
    let front = behind 0 number_count [] numbers.result (number_words l) out put.new.words refl numbers.ensures refl put.ensures.front in
    let long : length end ≤ word_count = omega (arith, rest.ensures.sized, put.ensures.sized) in
    let all : end ≡ log_words l = sym (take_all word_count end long) ∙ rest.ensures.front ∙ ap (λ (x : List ℕ). x ++ log) front in
    all ∙ ap log_words (c.log-l.ensures.log ∙ ap log_of c.read_state.ensures)
