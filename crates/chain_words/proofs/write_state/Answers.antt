-- `chain_words::write_state`: the parts stand one behind another, and the types say the rest. Assumes nothing.
use mathlib.Core.List.{List, ◌++◌}
use mathlib.Core.Path.{◌≡◌, sym, ap, ◌∙◌}
use Prim.Native.Nat.{ℕ, ◌≤◌}
use native.Mathlib.Omega.{arith}
use lib.Seq.{take_all}
use lib.ListN.{length, take}
use Rattle.chain_words.proofs.laws.Again.{again}
use Rattle.chain_words.specs.Typed.{Typed}
use Rattle.chain_words.specs.States.{state_of}
use Rattle.chain_words.specs.Words.{counter_words, arrays_words, log_words, words_of}
use Rattle.chain_words.specs.Places as place
use Rattle.chain_words.proofs.Filling.{two}
use Rattle.chain_words.proofs.write_state.Goals as goal

pub returns : goal.returns
unfolding words_of
returns c =
    let s = c.args.state in
    let stages = c.write_stages in
    let counters = c.write_counters in
    let arrays = c.write_arrays in
    let log = c.put_log in
    let end = log.new.words in
    let long : length end ≤ place.state_words = omega (arith, log.ensures.sized) in
    let front = ap (λ (x : List ℕ). x ++ (counter_words s ++ (arrays_words s.suppressor ++ log_words s.notes.log))) stages.ensures in
    let later =
    two (take place.window counters.new.words) (arrays_words s.suppressor) (log_words s.notes.log) arrays.ensures.front log.ensures.front in
    let all =
    two (take place.begun stages.new.words) (counter_words s) (arrays_words s.suppressor ++ log_words s.notes.log) counters.ensures later in
    let words : end ≡ words_of s = sym (take_all place.state_words end long) ∙ all ∙ front in
    let settings = c.settings_typed.ensures in
    let blocker = c.blocker_typed.ensures in
    let gs = c.well_formed.0.1.1.1.1.0 in
    let gl = c.well_formed.0.1.1.1.1.1.1.1.0.1.1.0 in
    let t : Typed s =
    record {
      fs = settings.0;
      iq = settings.1;
      a = blocker.0;
      dc = blocker.1;
      window = arrays.ensures.held.0;
      sorted = arrays.ensures.held.1;
      window_long = gs.1.1.1.0.1.0.1;
      sorted_long = gs.1.1.1.1.0.1.0.1;
      pending_long = gs.1.1.1.1.1.0.1.0.1;
      marks_long = gl.1.1.0.1.0.1;
    } in
    record {
      words = words;
      again = ap state_of words ∙ again s t;
    }
