-- Number 5 as a cause that an operation declines: of the state, and of the span store that is lent with it. Definitions only.
use Rattle.std.specs.Prelude.{not, List, ℕ}
use Rattle.rules.specs.Refusals.{Cause}
use Rattle.stage_log.specs.Check.{ends_fit}
use Rattle.chain_state.specs.declared.InputConditioner.{InputConditioner}
use Rattle.chain_state.specs.Fits.{state_fits}

abbrev pub bad_state : InputConditioner → Cause
bad_state c = record { holds = not (state_fits c); number = 5 }

-- 'newest span's sum > 2^49'
abbrev pub bad_spans : InputConditioner → List ℕ → Cause
bad_spans c spans = record { holds = not (ends_fit c.settings.spans (record { log = c.notes.log; spans = spans })); number = 5 }
