-- `impulse_window::replace` meets its contract. Assumes nothing.
use mathlib.Core.Path.{sym, ◌∙◌, subst}
use mathlib.Core.Path.{◌≡◌}
use Prim.Native.Nat.{◌-◌}
use lib.ListN.{length}
use borrow.Author.Rules.{rules}
use Rattle.rules.specs.Impulse.{window_size}
use Rattle.impulse_window.specs.Rising.{Held, Rising}
use Rattle.impulse_window.proofs.Blends.{not_negative, blended_is, replaced_rising}
use Rattle.impulse_window.proofs.replace.Goals as goal

pub returns : goal.returns
returns c =
    let a = c.args in
    let old : Held a.old = search rules in
    let p : Held a.p = search rules in
    let r = c.requires in
    let n : length a.sorted.now ≡ window_size = search rules in
    let e = blended_is a.old a.p old p (window_size - 2) a.sorted.now r n in
    let u = c.blended.ensures ∙ e in
    record {
      result = u;
      rising = λ z. subst (Rising 0) (sym u) (replaced_rising a.old a.p old p (window_size - 2) a.sorted.now r n (not_negative a.p p z));
    }
