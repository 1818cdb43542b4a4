-- `iq_monitor::all_fit` counts the words that do not fit. Assumes nothing.
use native.Mathlib.Omega.{arith}
use mathlib.Core.Bool.{not}
use lib.Dec.{eqb}
use lib.Ieee.{nan}
use Rattle.rules.proofs.laws.ListLaws.{good_done, none_next, bit}
use Rattle.iq_monitor.specs.Words.{sum_fits}
use Rattle.iq_monitor.proofs.all_fit.Goals as goal

pub loop-word-preserved : goal.loop-word-preserved
loop-word-preserved c =
    let v = c.loop-word in (
      omega (arith, bit (not c.word_fits.result)),
      none_next sum_fits nan c.args.words.now v.word-index v.others c.word_fits.result (omega arith) c.word_fits.ensures v.invariant.1,
    )

pub returns : goal.returns
returns c = let v = c.loop-word in
    good_done sum_fits c.args.words.now v.word-index (eqb v.others 0) (omega arith) v.invariant.1
