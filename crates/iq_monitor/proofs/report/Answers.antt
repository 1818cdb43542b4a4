-- `iq_monitor::report` is the evidence of the words. Assumes nothing.
use mathlib.Core.Path.{◌≡◌, ap, ◌∙◌}
use native.Mathlib.Omega.{arith}
use Prim.Native.Nat.{ℕ}
use mathlib.Core.Bool.{Bool}
use mathlib.Core.List.{List}
use lib.ListN.{length, take}
use lib.Ieee.{Float}
use Rattle.iq_monitor.specs.Observe.{power_at, pair_in, report_in, evidence}
use Rattle.rules.specs.Monitor.{strongest, suspicious, floor_of, reported}
use lib.Seq.{length-take-le}
use Rattle.iq_monitor.specs.declared.Pair.{Pair}
use Rattle.iq_monitor.specs.declared.Evidence.{Evidence}
use Rattle.iq_monitor.proofs.report.Goals as goal
use Rattle.iq_monitor.proofs.report.Goals.{Start}

powers_count : (c : Start) → length (take c.args.n c.args.words.now) ≡ c.args.n
powers_count c = length-take-le c.args.n c.args.words.now (omega (arith, c.requires.lent.0))

made : (n : ℕ) (ws : List Float) (first end : ℕ) (pair : Pair) (floor : Float) (s : Bool) → pair ≡ pair_in n ws (strongest n (power_at (take n ws)) n)
    → floor ≡ floor_of (take n ws) → s ≡ suspicious floor pair.p pair.q
    → ◌≡◌ {A = Evidence} (record { start = first; end = end; suspected = s; coherence = pair.coherence; floor = floor; strongest = pair.p; mirror = pair.q })
    (evidence (report_in n ws first end))
unfolding report_in reported
made n ws first end pair floor s e f t =
    let u = t ∙ ap (λ (x : Float). suspicious x pair.p pair.q) f ∙ ap (λ (r : Pair). suspicious (floor_of (take n ws)) r.p r.q) e in
    λ i. record { start = first; end = end; suspected = u i; coherence = (e i).coherence; floor = f i; strongest = (e i).p; mirror = (e i).q }

pub returns : goal.returns
returns c =
    let ws = c.args.words.now in
    let n = c.args.n in
    let best = c.strongest_channel-best.ensures.0
    ∙ ap (λ (m : ℕ). strongest m (power_at (take n ws)) m) (powers_count (goal.at.returns c).Start) in
    made n ws _ _ _ _ _ (c.pair_of-pair.ensures ∙ ap (pair_in n ws) best) c.floor_power-floor.ensures
    c.is_suspicious.ensures
