-- `replay_format::header::config`: each field by its bytes. Assumes nothing.
use Rattle.replay_format.specs.Format.{config_in}
use Rattle.replay_format.proofs.header.config.Goals as goal

pub returns : goal.returns
unfolding config_in
returns c =
    rw (
      c.mode_by.ensures,
      c.mode_by-2.ensures,
      c.mode_by-3.ensures,
      c.real_at.ensures,
      c.real_at-2.ensures,
      c.calibration.ensures,
      c.edition_by.ensures,
      c.version.ensures,
    )
