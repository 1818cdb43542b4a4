-- `complex::Complex64::norm` is `norm`: the root of the power. Assumes nothing.
use Rattle.complex.specs.Complex.{norm}
use mathlib.Core.Path.{ap, ◌∙◌}
use Rattle.ieee.specs.Root.{rooted}
use Rattle.complex.proofs.Complex64.norm.Goals as goal

pub returns : goal.returns
unfolding norm
returns c = c.root.ensures ∙ ap rooted c.norm_sqr-p.ensures
