-- `amplitude_limit::within` is `within_limit`: both parts. Assumes nothing.
use Rattle.std.proofs.Common.{◌≡◌, refl, ℕ, Bool, ◌&&◌, sym, ap, ◌∙◌}
use Rattle.complex.specs.Complex.{sample_of}
use Rattle.rules.specs.Refusals.{within_limit}
use Rattle.amplitude_limit.specs.Limit.{limited}
use Rattle.amplitude_limit.proofs.within.Goals as goal

both : (w : ℕ) → (limited (sample_of w).re && limited (sample_of w).im) ≡ within_limit w
unfolding within_limit limited
both w = refl

pub returns-then-part_within : goal.returns-then-part_within
returns-then-part_within c =
    let re = sym c.if-part_within.true ∙ c.part_within.ensures ∙ ap (λ z. limited z.re) c.unpack-z.ensures in
    let im = c.part_within-then-part_within.ensures ∙ ap (λ z. limited z.im) c.unpack-z.ensures in
    im ∙ ap (λ (t : Bool). t && limited (sample_of c.args.w).im) re ∙ both c.args.w

pub returns-else-part_within : goal.returns-else-part_within
returns-else-part_within c =
    let re = sym c.if-part_within.false ∙ c.part_within.ensures ∙ ap (λ z. limited z.re) c.unpack-z.ensures in
    c.if-part_within.false ∙ ap (λ (t : Bool). t && limited (sample_of c.args.w).im) re ∙ both c.args.w
