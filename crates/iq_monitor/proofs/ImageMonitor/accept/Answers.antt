-- `ImageMonitor::accept` is `accepted_of`. Assumes nothing.
use mathlib.Core.Path.{◌≡◌, sym, ap, ◌∙◌}
use native.Mathlib.Omega.{arith}
use Prim.Native.Nat.{ℕ, ◌*◌}
use mathlib.Core.Bool.{Bool, true, false}
use mathlib.Core.List.{List}
use lib.ListN.{length, replicate}
use lib.Ieee.{Float}
use Rattle.std.specs.Prelude.{None, Some, Ok}
use Rattle.rules.specs.Constants.{zero_f}
use Rattle.rules.specs.Monitor.{channel_width}
use Rattle.iq_monitor.specs.declared.Heard.TheVariants as heard
use Rattle.iq_monitor.specs.declared.ImageMonitor.{ImageMonitor}
use Rattle.iq_monitor.specs.Observe.{evidence, report_in, first_or, monitor_of, full, end_of}
use Rattle.iq_monitor.proofs.laws.ObserveLaws.{accepted_by}
use Rattle.iq_monitor.proofs.ImageMonitor.accept.Goals as goal

-- the test of the code is that of the definition
turned : {f : ℕ} {t : Bool} (m : ImageMonitor) (fs : Float) (xs : List ℕ) (start : ℕ) → f ≡ first_or m.first start → t ≡ full fs f (end_of xs start)
    → full fs (first_or m.first start) (end_of xs start) ≡ t
turned m fs xs start e h = ap (λ (i : ℕ). full fs i (end_of xs start)) (sym e) ∙ sym h

pub returns-then-is_due : goal.returns-then-is_due
returns-then-is_due c =
    let a = c.args in
    let n = length a.x.now in
    let end = end_of a.x.now a.start in
    let first = c.unwrap_or-first.ensures in
    let r = c.report-evidence.ensures ∙ (λ i. evidence (report_in n (c.add_hop.ensures i) (first i) end)) in
    let l : length c.report-evidence.new.words ≡ channel_width * n = omega (arith, c.requires.lent.0) in
    let w = c.clear.ensures ∙ ap (λ (k : ℕ). replicate k zero_f) l in
    (λ i. record { monitor = monitor_of None end; answer = Ok (heard.Report (r i)); words = w i })
    ∙ sym (accepted_by true a.self.now a.fs a.x.now a.start a.words.now (turned a.self.now a.fs a.x.now a.start first c.if-is_due.ensures))

pub returns : goal.returns
returns c =
    let a = c.args in
    let end = end_of a.x.now a.start in
    let first = c.unwrap_or-first.ensures in
    (λ i. record { monitor = monitor_of (Some (first i)) end; answer = Ok heard.NoReport; words = c.add_hop.ensures i })
    ∙ sym (accepted_by false a.self.now a.fs a.x.now a.start a.words.now (turned a.self.now a.fs a.x.now a.start first c.if-is_due.ensures))
