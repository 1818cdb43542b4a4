-- `iq_median::is_plain` is `sign_clear`, by the sign bit. Assumes nothing.
use mathlib.Core.Path.{sym, ap, subst}
use lib.Dec.{T}
use lib.Ieee.{binary64, fits}
use Rattle.ieee.proofs.laws.Nan.{is_nan_lem, no_nan}
use Rattle.ieee.specs.Plain.{sign_clear}
use Rattle.iq_median.proofs.Signs.{bit_tells}
use Rattle.iq_median.proofs.is_plain.Goals as goal
use Rattle.iq_median.proofs.is_plain.Goals.{Start}

held : (c : Start) → T (fits binary64 c.args.x)
held c = subst T (sym c.well_formed.0.1) tt

pub returns-then-x : goal.returns-then-x
returns-then-x c = (ap sign_clear (sym (is_nan_lem c.args.x c.if-x.true)), held (goal.at.returns-then-x c).Start)

pub float_to_bits-result : goal.float_to_bits-result
float_to_bits-result c = no_nan _ c.if-x.false

pub returns : goal.returns
returns c = (bit_tells binary64 c.args.x (held (goal.at.returns c).Start) (no_nan _ c.if-x.false), held (goal.at.returns c).Start)
