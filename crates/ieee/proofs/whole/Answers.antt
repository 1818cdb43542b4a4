-- `ieee::whole` meets its contract: a NaN and what is below zero give 0, and the rest is `whole_positive`'s. Assumes nothing.
use Rattle.std.proofs.Common.{T, sym, ap, ◌∙◌, arith, le-leb, rules}
use lib.Ieee.{binary64, fits}
use lib.Ieee.Bits.{of_bits-to_bits}
use Rattle.ieee.specs.Whole.{whole_by}
use Rattle.ieee.proofs.laws.Nan.{is_nan_lem, no_nan, number_below}
use Rattle.ieee.proofs.laws.Fields.{meaning}
use Rattle.ieee.proofs.Wholes.{of_nan, below_zero}
use Rattle.ieee.proofs.whole.Goals as goal

pub returns-then-x : goal.returns-then-x
returns-then-x g c = λ rule a. of_nan _ ∙ sym (ap (whole_by rule) (is_nan_lem c.args.x c.if-x.true))

pub float_to_bits-b : goal.float_to_bits-b
float_to_bits-b g c = no_nan c.args.x c.if-x.false

pub returns-then-b-ge9223372036854775808 : goal.returns-then-b-ge9223372036854775808
returns-then-b-ge9223372036854775808 g c =
    let held : T (fits binary64 c.args.x) = search rules in
    λ rule a. below_zero _ _ _ _ _ (le-leb _ _ c.if-b-ge9223372036854775808.true) (meaning _ held (no_nan _ c.if-x.false))

pub whole_positive-requires-clause-number : goal.whole_positive-requires-clause-number
whole_positive-requires-clause-number g c =
    let held : T (fits binary64 c.args.x) = search rules in
    let h = number_below binary64 c.args.x held (no_nan _ c.if-x.false) in
    omega arith

pub returns : goal.returns
returns g c =
    let held : T (fits binary64 c.args.x) = search rules in
    λ rule a. c.whole_positive.ensures rule a ∙ ap (whole_by rule) (of_bits-to_bits binary64 c.args.x held)
