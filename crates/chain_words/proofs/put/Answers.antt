-- `chain_words::put`: the list stands behind the words before `at`. Assumes nothing.
use mathlib.Core.Path.{◌≡◌, sym, ap, ◌∙◌}
use mathlib.Core.List.{List, ◌++◌, append_assoc}
use Prim.Native.Nat.{ℕ, ◌+◌, ◌≤◌}
use native.Mathlib.Omega.{arith}
use lib.Seq.{take_at, length-take-le}
use lib.ListN.{length, take, length-append}
use borrow.Author.Rules.{rules}
use Rattle.chain_words.proofs.put.Goals as goal

placed : (at : ℕ) (ws list part post : List ℕ) → at ≤ length ws → part ≡ list
    → take (at + length list) (take at ws ++ (part ++ post)) ≡ take at ws ++ list
placed at ws list part post h e =
    let n = length-append (take at ws) list in
    let m = length-take-le at ws h in
    ap (λ (x : List ℕ). take (at + length list) (take at ws ++ (x ++ post))) e
    ∙ ap (take (at + length list)) (sym (append_assoc (take at ws) list post))
    ∙ take_at (take at ws ++ list) post (at + length list) (omega arith)

pub returns : goal.returns
returns c =
    let a = c.args in
    record {
      front = placed a.at a.words.now a.list.now c.copy_from_slice.new.self _ (omega (arith, c.requires)) c.copy_from_slice.ensures.after;
      sized = search rules;
    }
