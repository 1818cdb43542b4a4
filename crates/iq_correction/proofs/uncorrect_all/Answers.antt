-- `iq_correction::uncorrect_all` is the map of `uncorrected`: the loop's, by document 01's divisor. Assumes nothing.
use Rattle.std.proofs.Common.{ℕ, map, ap, ◌∙◌}
use lib.Ieee.{Float}
use Rattle.complex.specs.View.{view64}
use Rattle.iq_correction.proofs.laws.UndoLaws.{by_the_formula}
use Rattle.iq_correction.specs.Undo.{uncorrected_by}
use Rattle.iq_correction.proofs.uncorrect_all.Goals as goal

pub returns : goal.returns
returns c =
    let a = c.args in
    let r = view64 a.rho in
    let xs = a.samples.now in
    c.uncorrect_each.ensures
    ∙ ap (λ (d : Float). map (uncorrected_by r d) xs) c.divisor.ensures
    ∙ ap (λ (f : ℕ → ℕ). map f xs) (by_the_formula r)
