-- `replay_format::header::header` by the answers of its tests. Assumes nothing.
use mathlib.Core.Path.{◌≡◌, refl, ap, sym, ◌∙◌}
use mathlib.Core.Bool.{true, false}
use lib.Dec.{leb}
use lib.ListN.{length}
use Rattle.replay_format.specs.Format.{version_fits, header_size}
use Rattle.replay_format.specs.Header.{config, header_said}
use Rattle.replay_format.proofs.laws.FrontLaws.{too_short, size_front, said_front}
use Rattle.replay_format.proofs.laws.HeaderLaws.{said_by, said_where}
use Rattle.replay_format.proofs.header.header.Goals as goal
use Rattle.replay_format.proofs.header.header.Goals.{
  In-Some,
  then-not-mark_fits-via-then-not-mark_fits,
  then-not-mark_fits-via-else-not-mark_fits+then-not-version_fits,
  then-not-mark_fits-via-else-not-mark_fits+else-not-version_fits+then-not-modes_fit,
}

-- the header's bytes are enough, and say what all bytes say
size : (c : In-Some) → leb header_size (length c.in-Some.head.now) ≡ true
size c = let chunk = c.in-Some.ensures.cases in size_front _ _ chunk.enough chunk.same

front : (c : In-Some) → header_said c.in-Some.head.now ≡ header_said c.args.bytes.now
front c = let chunk = c.in-Some.ensures.cases in said_front _ _ chunk.enough chunk.same

pub returns-in_default : goal.returns-in_default
returns-in_default c = sym (said_where c.args.bytes.now false (too_short c.args.bytes.now c.in_default.ensures.cases))

pub returns-then-not-mark_fits : goal.returns-then-not-mark_fits
returns-then-not-mark_fits c =
    let here = (goal.at.returns-then-not-mark_fits c).In-Some in
    let many = size here in
    elim c.then-not-mark_fits.branch [
      | then-not-mark_fits-via-then-not-mark_fits w ↦ sym (said_by _ true false _ _ many (sym c.mark_fits.ensures ∙ w.if-not-mark_fits.true) refl refl)
      | then-not-mark_fits-via-else-not-mark_fits+then-not-version_fits w ↦
          sym (said_by _ true true false _ many (sym c.mark_fits.ensures ∙ w.if-not-mark_fits.false)
          (ap version_fits (sym w.version.ensures) ∙ sym w.version_fits.ensures ∙ w.if-not-version_fits.true) refl)
      | then-not-mark_fits-via-else-not-mark_fits+else-not-version_fits+then-not-modes_fit w ↦
          sym (said_by _ true true true false many (sym c.mark_fits.ensures ∙ w.if-not-mark_fits.false)
          (ap version_fits (sym w.version.ensures) ∙ sym w.version_fits.ensures ∙ w.if-not-version_fits.false)
          (sym w.modes_fit.ensures ∙ w.if-not-modes_fit.true))
    ]
    ∙ front here

pub returns : goal.returns
returns c =
    let here = (goal.at.returns c).In-Some in
    ap config c.config.ensures
    ∙ sym (said_by _ true true true true (size here) (sym c.mark_fits.ensures ∙ c.if-not-mark_fits.false)
    (ap version_fits (sym c.version.ensures) ∙ sym c.version_fits.ensures ∙ c.if-not-version_fits.false)
    (sym c.modes_fit.ensures ∙ c.if-not-modes_fit.false))
    ∙ front here
