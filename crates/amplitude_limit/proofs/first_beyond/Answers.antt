-- `amplitude_limit::first_beyond` looks for the place only where a test of all samples fails. Assumes nothing.
use mathlib.Core.Path.{◌≡◌, sym, ◌∙◌, subst}
use Prim.Native.Nat.{◌+◌}
use native.Mathlib.Omega.{arith}
use lib.Dec.{T}
use lib.ListN.{length}
use Rattle.amplitude_limit.proofs.Under.{all_within}
use Rattle.amplitude_limit.proofs.first_beyond.Goals as goal

pub returns-then-all_under : goal.returns-then-all_under
returns-then-all_under c = let x = c.args.samples.now in let z : length x ≡ 0 + length x = omega arith in
    z ∙ sym (all_within 0 x (subst T (sym c.if-all_under.true ∙ c.all_under.ensures) tt))
