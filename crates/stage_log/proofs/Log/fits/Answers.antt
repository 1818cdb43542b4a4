-- `stage_log::Log::fits` meets its contract: each ring before number k fits. Assumes nothing.
use mathlib.Core.Path.{◌≡◌, refl, sym, ◌∙◌}
use native.Mathlib.Numerals.{add-one}
use native.Mathlib.Omega.{arith}
use borrow.Author.Rules.{rules}
use Rattle.stage_log.specs.Check.{all_to, log_fits}
use Rattle.stage_log.proofs.laws.CheckLaws.{all_next, all_not}
use Rattle.stage_log.proofs.Log.fits.Invariants.{test}
use Rattle.stage_log.proofs.Log.fits.Goals as goal

pub loop-marks-init : goal.loop-marks-init
unfolding all_to
loop-marks-init c = (omega arith, refl)

pub returns-then-not-ring_fits : goal.returns-then-not-ring_fits
unfolding log_fits
returns-then-not-ring_fits c =
    let a = c.args in
    let k = c.loop-marks.marks-index in
    sym (all_not (test a.capacity a.self) 12 k c.loop-marks-test.true
    (sym c.ring_fits.ensures ∙ c.if-not-ring_fits.true))

pub loop-marks-preserved : goal.loop-marks-preserved
loop-marks-preserved c =
    let a = c.args in
    let l = c.loop-marks in (
      search rules,
      rw (add-one l.marks-index) (all_next (test a.capacity a.self) l.marks-index l.invariant.1 (sym c.ring_fits.ensures ∙ c.if-not-ring_fits.false)),
    )

pub returns : goal.returns
unfolding log_fits
returns c =
    let l = c.loop-marks in
    let e : l.marks-index ≡ 12 = omega (arith, c.loop-marks-test.false, l.invariant.0) in
    sym (rw e at l.invariant.1)
