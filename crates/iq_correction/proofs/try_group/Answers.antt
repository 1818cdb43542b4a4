-- `iq_correction::try_group` meets its contract. The invariant: what stands before place j is right, if the mark so far says so. Assumes nothing.
use Rattle.std.proofs.Common.{not-suc-le-zero, arith, rules, ltb-true}
use Rattle.iq_correction.proofs.laws.GroupRuns.{finite_at, trying_next, trying_end}
use Rattle.iq_correction.proofs.try_group.Goals as goal

pub loop-j-init : goal.loop-j-init
loop-j-init c = record { size = search rules; place = omega arith; right = λ t i h. absurd (not-suc-le-zero h) }

pub try_sample-t-requires : goal.try_sample-t-requires
try_sample-t-requires c =
    let p = c.requires in
    record {
      small = p.small;
      finite = finite_at _ c.loop-j.j p.whole (omega arith) p.finite;
    }

pub loop-j-preserved : goal.loop-j-preserved
loop-j-preserved c =
    trying_next _ _ _ _ _ _ _ (omega arith) c.try_sample-t.ensures c.loop-j.invariant

pub returns : goal.returns
returns c = λ t. trying_end _ _ _ _ _ c.requires.whole (omega arith) (ltb-true _ _ t) c.loop-j.invariant
