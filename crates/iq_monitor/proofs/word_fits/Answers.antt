-- `iq_monitor::word_fits` is `sum_fits`: a size at most 1e60 is a number from -1e60 to 1e60. Assumes nothing.
use mathlib.Core.Path.{◌≡◌, sym, ap, ◌∙◌}
use mathlib.Core.Bool.{Bool, true, false, ◌&&◌}
use lib.IntN.{pos}
use lib.Ieee.{Float, le, neg, of_bits}
use Rattle.rules.proofs.laws.SizeLaws.{size-le}
use Rattle.rules.specs.Constants.{word_limit}
use Rattle.iq_monitor.specs.Words.{sum_fits}
use Rattle.iq_monitor.proofs.word_fits.Goals as goal

-- by the first comparison's answer t
by_first : (x : Float) (t : Bool) → le (neg word_limit) x ≡ t → (t && le x word_limit) ≡ sum_fits x
unfolding sum_fits neg of_bits
by_first x t e = sym (size-le x 1401298464324817 (pos 149) ∙ ap (λ (s : Bool). s && le x word_limit) e)

pub returns-then-x : goal.returns-then-x
returns-then-x c = by_first c.args.x true c.if-x.true

pub returns-else-x : goal.returns-else-x
returns-else-x c = c.if-x.false ∙ by_first c.args.x false c.if-x.false
