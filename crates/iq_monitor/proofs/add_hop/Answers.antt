-- `iq_monitor::add_hop` adds all channels, a pair at a time. Assumes nothing.
use mathlib.Core.Path.{◌≡◌, ap, ◌∙◌}
use mathlib.Core.List.{List}
use Prim.Native.Nat.{◌+◌, ◌-◌, ◌/◌}
use native.Mathlib.Omega.{arith}
use lib.ListN.{length}
use lib.Ieee.{Float}
use Rattle.iq_monitor.specs.Words.{added_channel}
use Rattle.iq_monitor.proofs.Pairs.{paired, paired_none, paired_next, paired_all, paired_middle}
use Rattle.iq_monitor.proofs.add_hop.Goals as goal
use Rattle.iq_monitor.proofs.add_hop.Goals.{After-loop-k}

pub loop-k-init : goal.loop-k-init
loop-k-init c = paired_none _ _

pub loop-k-preserved : goal.loop-k-preserved
loop-k-preserved c =
    let xs = c.args.x.now in
    let v = c.loop-k in
    let step : List Float → List Float = λ l. added_channel xs (added_channel xs l v.k) (length xs - v.k) in
    c.add_pair.ensures ∙ ap step v.invariant ∙ paired_next xs c.add_channel.new.words v.k (omega arith) (omega arith)

-- channel 0 is there, and the pairs
there : (c : After-loop-k) → let s = c.args in
    c.loop-k.words ≡ paired s.x.now (added_channel s.x.now s.words.now 0) c.loop-k.k
there c = c.loop-k.invariant ∙ ap (λ (l : List Float). paired c.args.x.now l c.loop-k.k) c.add_channel.ensures

pub returns-then-x-eq0 : goal.returns-then-x-eq0
returns-then-x-eq0 c =
    let s = c.args in
    let k = c.loop-k.k in
    let half : (length s.x.now + 1) / 2 ≡ k = omega arith in
    c.add_channel-then-x-eq0.ensures
    ∙ ap (added_channel s.x.now c.loop-k.words) half
    ∙ ap (λ (l : List Float). added_channel s.x.now l k) (there (goal.at.returns-then-x-eq0 c).After-loop-k)
    ∙ paired_middle s.x.now s.words.now k (omega arith) (omega arith)

pub returns-else-x-eq0 : goal.returns-else-x-eq0
returns-else-x-eq0 c =
    let s = c.args in
    there (goal.at.returns-else-x-eq0 c).After-loop-k ∙ paired_all s.x.now s.words.now c.loop-k.k (omega arith)
