-- `ieee::round_any` meets its contract: its bits are those that `narrow_bits_is` of `proofs/Narrowing.antt` is about. Assumes nothing.
use Rattle.std.proofs.Common.{◌≡◌, T, sym, ap, ◌∙◌, subst, rules}
use lib.Ieee.{binary32, binary64, to_bits, of_bits}
use lib.Ieee.Bits.{of_bits-to_bits}
use Rattle.ieee.specs.Narrow.{narrowed}
use Rattle.ieee.proofs.laws.Nan.{is_nan_lem, no_nan, zero_by_zero, bits_of_nan}
use Rattle.ieee.proofs.laws.NarrowLaws.{narrowed_nan, narrowed_fits}
use Rattle.ieee.proofs.Narrowing.{narrow_bits_is}
use Rattle.ieee.proofs.round_any.Goals as goal

is : (c : goal.After-narrow_bits-bits) → c.narrow_bits-bits.result ≡ to_bits binary32 (narrowed c.args.x)
is c =
    let x = c.args.x in
    c.narrow_bits-bits.ensures ∙ narrow_bits_is x (subst T (sym c.well_formed.0.1) tt) (no_nan x c.if-x.false)

pub returns-then-x : goal.returns-then-x
returns-then-x c =
    let x = c.args.x in
    let n : narrowed x ≡ x = ap narrowed (is_nan_lem x c.if-x.true) ∙ narrowed_nan ∙ sym (is_nan_lem x c.if-x.true) in
    record { value = zero_by_zero binary64 ∙ sym (n ∙ is_nan_lem x c.if-x.true); bits = bits_of_nan binary32 x c.if-x.true ∙ ap (to_bits binary32) (sym n) }

pub float_to_bits-x : goal.float_to_bits-x
float_to_bits-x c = no_nan c.args.x c.if-x.false

pub widen_bits-requires : goal.widen_bits-requires
widen_bits-requires c = search rules

pub returns : goal.returns
returns c =
    record { value = c.widen_bits.ensures ∙ ap (of_bits binary32) (is c.before) ∙ of_bits-to_bits binary32 _ (narrowed_fits _); bits = is c.before }
