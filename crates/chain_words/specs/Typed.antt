-- What the types of the code say of a state: of each float its format, of each array its length. Definitions only.
use Rattle.std.specs.Prelude.{◌≡◌, T, length, Float}
use Rattle.std.specs.Float.{binary64}
use Rattle.std.specs.Float.Ieee.{fits}
use Rattle.rules.specs.Lists.{All}
use Rattle.impulse_window.specs.Rising.{Held}
use Rattle.complex.specs.declared.Complex64.{Complex64}
use Rattle.iq.specs.declared.Iq.{Iq}
use Rattle.iq.specs.declared.Iq.TheVariants as iq
use Rattle.rules.specs.Impulse.{window_size, lookahead_size}
use Rattle.chain_state.specs.declared.InputConditioner.{InputConditioner}

-- a value of binary64
abbrev pub Double : Float → Type 0
Double x = T (fits binary64 x)

abbrev pub Doubles : Complex64 → Type 0
Doubles z = Double z.re × Double z.im

abbrev pub IqTyped : Iq → Type 0
IqTyped iq.Off = Unit {0}
IqTyped iq.Observing = Unit {0}
IqTyped (iq.Correcting rho) = Doubles rho
IqTyped iq.Withheld = Unit {0}

pub record Typed (s : InputConditioner) : Type 0 where
  pub fs : Double s.settings.fs
  pub iq : IqTyped s.settings.iq
  pub a : Double s.blocker.a
  pub dc : Doubles s.blocker.dc
  pub window : All Held s.suppressor.window
  pub sorted : All Held s.suppressor.sorted
  pub window_long : length s.suppressor.window ≡ window_size
  pub sorted_long : length s.suppressor.sorted ≡ window_size
  pub pending_long : length s.suppressor.pending ≡ lookahead_size
  pub marks_long : length s.notes.log.marks ≡ 12
