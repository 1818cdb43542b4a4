-- `impulse_arrays::power_fits` is `power_fits`: a number whose sign bit is clear is its own size. Assumes nothing.
use mathlib.Core.Path.{sym, ap, ◌∙◌, subst}
use lib.Dec.{T}
use lib.Ieee.{Float, binary32, fits, le}
use Prim.Native.Nat.{ℕ, ◌≤◌, ◌<◌, ◌^◌}
use Rattle.iq_median.proofs.Signs.{bit_set, bit_clear}
use Rattle.rules.specs.Constants.{power_limit}
use Rattle.impulse_arrays.specs.Fits.{power_fits}
use Rattle.impulse_arrays.proofs.power_fits.Goals as goal
use Rattle.impulse_arrays.proofs.power_fits.Goals.{Start}

held : (c : Start) → T (fits binary32 c.args.p)
held c = subst T (sym c.well_formed.0.1) tt

pub returns-then-to_bits32-ge2147483648 : goal.returns-then-to_bits32-ge2147483648
unfolding power_fits
returns-then-to_bits32-ge2147483648 c = bit_set binary32 power_limit c.args.p (held (goal.at.returns-then-to_bits32-ge2147483648 c).Start) (subst (λ (b : ℕ). 2 ^ 31 ≤ b) c.to_bits32.ensures c.if-to_bits32-ge2147483648.true)

pub returns : goal.returns
unfolding power_fits
returns c =
    ap (λ (x : Float). le x power_limit) c.widen.ensures
    ∙ bit_clear binary32 power_limit c.args.p (subst (λ (b : ℕ). b < 2 ^ 31) c.to_bits32.ensures c.if-to_bits32-ge2147483648.false)
