-- What a push asks of the gate's numbers, so that none of its sums wraps. Definitions only.
use Rattle.std.specs.Prelude.{ℕ, ◌+◌, ◌^◌, ◌≤◌, ◌<◌, Option, Some, None}
use Rattle.impulse.specs.declared.Run.{Run}
use Rattle.impulse.specs.declared.Gate.{Gate}

-- where an open run ends
abbrev pub run_end : Option Run → ℕ
run_end None = 0
run_end (Some r) = r.start + r.len

pub record Room (g : Gate) : Type 0 where
  pub blocks : 0 < g.settings.blocklen
  pub early : g.received ≤ 2 ^ 50
  pub few : g.block.flagged ≤ 2 ^ 52 + g.received
  pub behind : run_end g.mending.run ≤ g.received
