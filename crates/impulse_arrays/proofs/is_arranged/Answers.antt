-- `impulse_arrays::is_arranged` meets its contract. Assumes nothing.
use mathlib.Core.Path.{◌≡◌, sym, ◌∙◌, subst}
use native.Mathlib.Omega.{arith}
use lib.Dec.{T}
use lib.ListN.{length, get_or}
use Rattle.rules.specs.Constants.{zero_f}
use Rattle.rules.specs.Impulse.{window_size}
use Rattle.stage_log.proofs.laws.CheckLaws.{all_at}
use Rattle.impulse_arrays.specs.Occurs.{occurs}
use Rattle.impulse_arrays.proofs.Arranged.{window_sorted}
use Rattle.impulse_arrays.proofs.is_arranged.Goals as goal

pub returns-then-not-strictly_ascends : goal.returns-then-not-strictly_ascends
returns-then-not-strictly_ascends c = λ e. absurd (subst T (sym e) tt)

pub returns : goal.returns
returns c =
    let w = c.args.window.now in
    let s = c.args.sorted.now in
    let u = c.strictly_ascends.ensures in
    let v = c.all_occur.ensures in
    let n : length s ≡ window_size = omega arith in
    let m : length w ≡ window_size = omega arith in
    λ e. window_sorted w s (n ∙ sym m) u.values v.values (sym u.result ∙ c.if-not-strictly_ascends.false)
    (λ k h. all_at (λ k. occurs (get_or s k zero_f) w) window_size k (sym v.result ∙ e) (omega arith))
