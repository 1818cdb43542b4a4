-- What the functions below a hop ask of the monitor's answer. Definitions only.
use Rattle.std.specs.Prelude.{◌≤◌, ◌^◌, Result, Ok, Err}
use Rattle.iq_monitor.specs.declared.Evidence.{Evidence}
use Rattle.refusal.specs.declared.Refusal.{Refusal}
use Rattle.iq_monitor.specs.declared.Heard.{Heard}
use Rattle.iq_monitor.specs.declared.Heard.TheVariants as heard

-- a window that ends after it starts, in range
abbrev pub Window : Evidence → Type 0
Window e = (e.start ≤ e.end) × (e.end ≤ 2 ^ 52)

-- an answer whose window, if it has one, is so
abbrev pub Told : Result Heard Refusal → Type 0
Told (Ok heard.Nothing) = Unit {0}
Told (Ok heard.NoReport) = Unit {0}
Told (Ok (heard.Report e)) = Window e
Told (Err e) = Unit {0}
