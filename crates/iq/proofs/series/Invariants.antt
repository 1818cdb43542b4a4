-- `iq::series` is `series`. The invariant: the turns that are left give the same. Assumes nothing.
use Rattle.std.proofs.Common.{◌≡◌, ◌-◌}
use Rattle.rules.specs.Constants.{one}
use Rattle.iq.specs.Series.{series}
use Rattle.iq.proofs.series.Given as goal

abbrev pub invariant-loop-k : goal.invariant-loop-k
invariant-loop-k l = series l.odd l.u (l.k - 1) l.s ≡ series l.odd l.u l.steps one
