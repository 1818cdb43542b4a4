-- `complex::Complex64::rounded` is `single_of`. Assumes nothing.
use Prim.Native.Nat.{◌+◌, ◌*◌, ◌^◌}
use Rattle.complex.specs.Complex.{narrowed_parts, word_of}
use Rattle.complex.proofs.Complex64.rounded.Goals as goal

pub returns : goal.returns
unfolding narrowed_parts word_of
returns c =
    let re = c.rounded_both-parts.ensures.first in
    let im = c.rounded_both-parts.ensures.second in
    λ i. record { value = record { re = re.value i; im = im.value i }; word = re.bits i + im.bits i * 2 ^ 32 }
