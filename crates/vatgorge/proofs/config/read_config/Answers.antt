-- `vatgorge::config::read_config`: each field by its word. Assumes nothing.
use Rattle.vatgorge.specs.Config.{config_in}
use Rattle.vatgorge.proofs.config.read_config.Goals as goal

pub returns : goal.returns
unfolding config_in
returns c =
    rw (
      c.from.ensures,
      c.calibration_at.ensures,
      c.from_bits64-2.ensures,
      c.from_bits64.ensures,
      c.mode_at-3.ensures,
      c.mode_at-2.ensures,
      c.mode_at.ensures,
    )
