-- `amplitude_limit::halves_clear` is `halves_clear`. Assumes nothing.
use mathlib.Core.Path.{◌≡◌, sym, ap, ◌∙◌}
use mathlib.Core.Bool.{Bool, false, ◌&&◌}
use Prim.Native.Nat.{◌%◌, ◌^◌}
use lib.Dec.{ltb}
use borrow.Author.Tests.{lt-ltb, le-ltb}
use Rattle.amplitude_limit.specs.Limit.{halves_clear}
use Rattle.amplitude_limit.proofs.halves_clear.Goals as goal

pub returns-then-n-lt2147483648 : goal.returns-then-n-lt2147483648
unfolding halves_clear
returns-then-n-lt2147483648 c = let n = c.args.n in sym (ap (λ (b : Bool). b && ltb n (2 ^ 63)) (lt-ltb (n % 2 ^ 32) (2 ^ 31) c.if-n-lt2147483648.true))

pub returns-else-n-lt2147483648 : goal.returns-else-n-lt2147483648
unfolding halves_clear
returns-else-n-lt2147483648 c =
    let n = c.args.n in
    let set : ltb (n % 2 ^ 32) (2 ^ 31) ≡ false = le-ltb (n % 2 ^ 32) (2 ^ 31) c.if-n-lt2147483648.false in
    set ∙ sym (ap (λ (b : Bool). b && ltb n (2 ^ 63)) set)
