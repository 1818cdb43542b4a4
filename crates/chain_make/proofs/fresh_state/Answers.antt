-- `chain_make::fresh_state`: each part is fresh. Assumes nothing.
use Rattle.chain_make.specs.Making.{fresh_state}
use Rattle.chain_make.proofs.fresh_state.Goals as goal

pub returns : goal.returns
unfolding fresh_state
returns c =
    rw (
      c.fresh_settings.ensures,
      c.fresh_suppressor.ensures,
      c.fresh.ensures,
      c.fresh-2.ensures,
      c.fresh-3.ensures,
    )
