-- `chain_words::read_state`: each field by its words. Assumes nothing.
use Rattle.chain_words.specs.States.{state_of}
use Rattle.chain_words.proofs.read_state.Goals as goal

pub returns : goal.returns
unfolding state_of
returns c =
    rw (
      c.read_notes.ensures,
      c.read_monitor.ensures,
      c.read_blocker.ensures,
      c.read_suppressor.ensures,
      c.read_counts.ensures,
      c.read_settings.ensures,
    )
