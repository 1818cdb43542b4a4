-- `iq_correction::try_sample` meets its contract: its numbers are no NaNs, and its word is right if its mark is clear. Assumes nothing.
use Rattle.std.proofs.Common.{◌≡◌, ℕ, ◌+◌, ◌^◌, ◌<◌, sym, subst, arith}
use lib.Ieee.{binary64}
use lib.Ieee.Bits.{to_bits-lt}
use Rattle.complex.specs.Complex.{Complex}
use Rattle.complex.specs.View.{view64}
use Rattle.iq_correction.proofs.laws.GroupLaws.{Numbers, numbers, exact, exact_by, part_lt, tried}
use Rattle.iq_correction.proofs.try_sample.Goals as goal
use Rattle.iq_correction.proofs.try_sample.Goals.{After-sub-y, After-part_bits-2}

is : (c : After-sub-y) → let a = c.args in view64 c.sub-y.result ≡ exact (view64 a.rho) a.w
is c =
    let a = c.args in
    exact_by (view64 a.rho) a.w c.finite_part.ensures c.finite_part-2.ensures
    c.conj.ensures c.mul.ensures c.sub-y.ensures

all : (c : After-sub-y) → Numbers (view64 c.sub-y.result)
all c =
    subst (λ (z : Complex). Numbers z) (sym (is c)) (numbers (view64 c.args.rho) c.args.w c.ranges.w.fits c.requires.small c.requires.finite)

-- each part has room for 64 in its exponent
first : (c : After-part_bits-2) → Numbers (view64 c.sub-y.result) → c.part_bits.result < 2 ^ 31 + 2 ^ 30
first c y =
    subst (λ (n : ℕ). n < 2 ^ 31 + 2 ^ 30) (sym c.part_bits.ensures) (part_lt _ _ (to_bits-lt binary64 _ y.re.fit))

second : (c : After-part_bits-2) → Numbers (view64 c.sub-y.result) → c.part_bits-2.result < 2 ^ 31 + 2 ^ 30
second c y =
    subst (λ (n : ℕ). n < 2 ^ 31 + 2 ^ 30) (sym c.part_bits-2.ensures) (part_lt _ _ (to_bits-lt binary64 _ y.im.fit))

pub float_to_bits-re : goal.float_to_bits-re
float_to_bits-re c = (all (goal.at.float_to_bits-re c).After-sub-y).re.some

pub float_to_bits-im : goal.float_to_bits-im
float_to_bits-im c = (all (goal.at.float_to_bits-im c).After-sub-y).im.some

pub overflow_mul-result : goal.overflow_mul-result
overflow_mul-result c = let y = second c (all (goal.at.overflow_mul-result c).After-sub-y) in omega arith

pub overflow_add-result : goal.overflow_add-result
overflow_add-result c =
    let n = all (goal.at.overflow_add-result c).After-sub-y in
    let x = first c n in let y = second c n in omega arith

pub overflow_add-result-2 : goal.overflow_add-result-2
overflow_add-result-2 c =
    let n = all (goal.at.overflow_add-result-2 c).After-sub-y in
    let x = first c n in let y = second c n in omega arith

pub returns : goal.returns
returns c =
    tried (view64 c.args.rho) c.args.w c.ranges.w.fits c.requires.small c.requires.finite (is (goal.at.returns c).After-sub-y) c.rebased-a.ensures
    c.rebased-b.ensures c.part_bits.ensures c.part_bits-2.ensures
