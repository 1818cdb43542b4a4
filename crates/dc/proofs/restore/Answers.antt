-- `dc::restore` writes `restored_all`. The invariant: what is written before place k, and what is left from k on, give the same. Assumes nothing.
use Rattle.std.proofs.Common.{refl, subst, sym, arith, rules}
use Rattle.dc.specs.declared.DcBlocker.{DcBlocker}
use Rattle.rules.specs.Dc.{corner, first_level}
use Rattle.dc.specs.Blocker.{blocker_of}
use Rattle.dc.proofs.laws.Runs.{Undoing, undoing_next, undoing_end}
use Rattle.dc.proofs.restore.Goals as goal

pub loop-k-init : goal.loop-k-init
loop-k-init c =
    let a = c.args in
    let b = blocker_of (corner a.fs) first_level in
    subst (λ (z : DcBlocker). Undoing b a.y.now z a.out.now 0) (sym c.fresh-blocker.ensures)
    (record { same = c.requires; place = search rules; updates = search rules; written = refl })

pub restore_sample-requires : goal.restore_sample-requires
restore_sample-requires c = omega (arith, c.loop-k.invariant.updates)

pub loop-k-preserved : goal.loop-k-preserved
loop-k-preserved c =
    let e = c.restore_sample.ensures in
    undoing_next _ _ _ _ _ _ _ (omega arith) e.after e.word c.loop-k.invariant

pub returns : goal.returns
returns c = undoing_end _ _ _ _ _ (omega arith) c.loop-k.invariant
