-- What an applying stage settles, by the answers of its tests. Assumes nothing.
use Rattle.std.specs.Prelude.{◌≡◌, Bool, cond, ◌&&◌, Float}
use Rattle.std.proofs.Common.{sym, ap, ◌∙◌}
use Rattle.complex.specs.Complex.{Complex}
use Rattle.rules.specs.Iq.{Calibration, coefficient, accepted, correctable, with, Withheld, Correcting, settled}
use Rattle.rules.specs.Mode.{apply}

pub settled_by_lem : (c : Calibration) (receiver : Float) (r : Complex) (fits fit : Bool) → r ≡ coefficient c → correctable c receiver ≡ fits → accepted r ≡ fit
    → cond (fits && fit) (Correcting r) Withheld ≡ settled apply (with c) receiver
unfolding settled
settled_by_lem c receiver r fits fit e f g =
    ap (λ (t : Bool). cond (t && fit) (Correcting r) Withheld) (sym f)
    ∙ ap (λ (t : Bool). cond (correctable c receiver && t) (Correcting r) Withheld) (sym g)
    ∙ ap (λ (z : Complex). cond (correctable c receiver && accepted z) (Correcting z) Withheld) e
