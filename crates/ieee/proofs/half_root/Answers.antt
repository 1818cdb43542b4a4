-- `ieee::half_root` meets its contract, by the test or by all digits. Assumes nothing.
use Rattle.std.proofs.Common.{◌+◌, ◌*◌, ◌%◌, ◌^◌, ◌&&◌, T, ltb, leb, sym, ◌∙◌, subst, arith, ltb→lt, leb→le}
use lib.Ieee.Fits.{and_l, and_r}
use Rattle.ieee.proofs.Rooting.{root_small}
use Rattle.ieee.proofs.HalfRoots.{half_of}
use Rattle.ieee.proofs.half_root.Goals as goal

pub returns-then-is_half_root : goal.returns-then-is_half_root
returns-then-is_half_root c =
    let w = c.args.w in
    let g = c.to_bits64.result % 2 ^ 52 + 2 ^ 52 in
    let t : T (ltb (g * g) (w * 2 ^ 42 + g) && leb (w * 2 ^ 42) (g * g + g)) = subst T (sym c.if-is_half_root.true ∙ c.is_half_root.ensures) tt in
    half_of w g (ltb→lt _ _ (and_l (ltb (g * g) (w * 2 ^ 42 + g)) (leb (w * 2 ^ 42) (g * g + g)) t))
    (leb→le _ _ (and_r (ltb (g * g) (w * 2 ^ 42 + g)) (leb (w * 2 ^ 42) (g * g + g)) t))

pub overflow_add-result : goal.overflow_add-result
overflow_add-result c = let r = root_small _ c.root_digits.result c.ranges.w.fits c.root_digits.ensures.0 in
    omega arith
