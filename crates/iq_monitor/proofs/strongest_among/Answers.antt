-- `iq_monitor::strongest_among` goes over channels that are all eligible. Assumes nothing.
use mathlib.Core.Path.{◌∙◌}
use native.Mathlib.Omega.{arith}
use Rattle.iq_monitor.proofs.Strength.{next_strongest}
use Rattle.iq_monitor.proofs.strongest_among.Goals as goal

pub loop-k-preserved : goal.loop-k-preserved
loop-k-preserved c =
    let v = c.loop-k in (
      c.stronger-best.ensures.1,
      c.stronger-best.ensures.0
          ∙ next_strongest c.args.powers.now v.best v.k (c.requires.eligible v.k (omega arith) (omega arith)) v.invariant.1,
    )
