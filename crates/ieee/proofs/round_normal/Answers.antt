-- `ieee::round_normal` meets its contract: its bits are those of `cut` of `proofs/laws/SingleLaws.antt`. Assumes nothing.
use Rattle.std.proofs.Common.{◌≡◌, ℕ, ◌*◌, ◌^◌, ◌<◌, Bool, not, T, sym, ap, ◌∙◌, subst}
use lib.Ieee.{Float, binary32, binary64, to_bits, of_bits, fits, is_nan}
use lib.Ieee.Bits.{nan_bits_is}
use Rattle.ieee.specs.Narrow.{narrowed}
use Rattle.ieee.proofs.laws.Nan.{castable}
use Rattle.ieee.proofs.laws.NarrowLaws.{narrowed_fits}
use Rattle.ieee.proofs.laws.SingleLaws.{Cut, cut, not_nan}
use Rattle.ieee.proofs.round_normal.Goals as goal

law : (c : goal.Start) → Cut c.args.x
law c = cut c.args.x (subst T (sym c.well_formed.0.1) tt) c.requires

is : (c : goal.After-cut) → of_bits binary64 (c.cut.result * 2 ^ 29) ≡ narrowed c.args.x
is c = ap (λ (n : ℕ). of_bits binary64 (n * 2 ^ 29)) c.cut.ensures ∙ (law c.before).value

number : (c : goal.After-cut) → T (not (is_nan (of_bits binary64 (c.cut.result * 2 ^ 29))))
number c = subst (λ (x : Float). T (not (is_nan x))) (sym (is c)) (law c.before).number

pub float_to_bits-x : goal.float_to_bits-x
float_to_bits-x c = not_nan c.args.x c.requires

pub cut-requires : goal.cut-requires
cut-requires c = (law c).room

pub overflow_mul-value : goal.overflow_mul-value
overflow_mul-value c = record { fits = subst (λ (n : ℕ). n * 2 ^ 29 < 2 ^ 64) (sym c.cut.ensures) (law c.before).fit }

pub float_from_bits-value : goal.float_from_bits-value
float_from_bits-value c = subst (λ (t : Bool). T (not t)) (sym (nan_bits_is binary64 _)) (number c)

pub float_to_float-result : goal.float_to_float-result
float_to_float-result c = castable binary32 _ (subst (λ (x : Float). T (fits binary32 x)) (sym (is c.before)) (narrowed_fits _)) (number c.before)

pub float_to_bits-result : goal.float_to_bits-result
float_to_bits-result c = number c.before

pub returns : goal.returns
returns c = record { value = is c.before; bits = ap (to_bits binary32) (is c.before) }
