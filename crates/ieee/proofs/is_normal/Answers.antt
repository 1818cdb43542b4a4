-- `ieee::is_normal` meets its contract: a NaN has the bits of no number. Assumes nothing.
use Rattle.std.proofs.Common.{◌≡◌, ◌*◌, ◌%◌, ◌^◌, Bool, false, ◌&&◌, leb, ltb, sym, refl, ap, ◌∙◌, le-leb}
use lib.Ieee.{Float, nan, binary64, to_bits}
use borrow.Author.Tests.{lt-leb}
use Rattle.ieee.specs.Narrow.{normal_in}
use Rattle.ieee.proofs.laws.Nan.{is_nan_lem, no_nan}
use Rattle.ieee.proofs.is_normal.Goals as goal

nan_is_none : false ≡ normal_in (to_bits binary64 nan)
unfolding to_bits
nan_is_none = refl

pub returns-then-x : goal.returns-then-x
returns-then-x c = nan_is_none ∙ ap (λ (x : Float). normal_in (to_bits binary64 x)) (sym (is_nan_lem c.args.x c.if-x.true))

pub float_to_bits-size : goal.float_to_bits-size
float_to_bits-size c = no_nan c.args.x c.if-x.false

pub returns-then-size-ge4039728865751334912 : goal.returns-then-size-ge4039728865751334912
returns-then-size-ge4039728865751334912 c =
    let size = to_bits binary64 c.args.x % 2 ^ 63 in
    ap (λ (t : Bool). t && ltb size (1150 * 2 ^ 52)) (sym (le-leb (897 * 2 ^ 52) size c.if-size-ge4039728865751334912.true))

pub returns-else-size-ge4039728865751334912 : goal.returns-else-size-ge4039728865751334912
returns-else-size-ge4039728865751334912 c =
    let size = to_bits binary64 c.args.x % 2 ^ 63 in
    let below : leb (897 * 2 ^ 52) size ≡ false = lt-leb (897 * 2 ^ 52) size c.if-size-ge4039728865751334912.false in
    below ∙ ap (λ (t : Bool). t && ltb size (1150 * 2 ^ 52)) (sym below)
