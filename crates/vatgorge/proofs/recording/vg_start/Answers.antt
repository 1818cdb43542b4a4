-- `vatgorge::recording::vg_start`: the start, told as making is. Assumes nothing.
use mathlib.Core.Path.{ap, ◌∙◌}
use Prim.Native.Nat.{ℕ}
use Rattle.replay_start.specs.Starting.{start_state}
use Rattle.vatgorge.specs.Codes.{words_after}
use Rattle.vatgorge.specs.Make.{code_of}
use Rattle.vatgorge.proofs.recording.vg_start.Goals as goal

pub returns : goal.returns
returns c =
    let ws = c.args.state.now in
    let m = c.start-started.ensures in
    let kept = c.keep_made.ensures in
    let code = kept.code ∙ ap code_of m.answer in
    let words = kept.words _ m.state ∙ ap (λ (k : ℕ). words_after k ws (start_state c.args.head.now)) code in
    record {
      after = λ i. record { code = code i; state = words i; spans = m.spans i; repairs = m.repairs i; monitor = m.words i };
      again = kept.again _ m.state;
    }
