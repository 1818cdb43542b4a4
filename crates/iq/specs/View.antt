-- The crate's structs and enums as the rules' records and data. Definitions only.
use Rattle.std.specs.Prelude.{Option, Some, None}
use Rattle.complex.specs.View.{view64}
use Rattle.rules.specs.Iq as rules
use Rattle.rules.specs.Iq.{Calibrated, none, with, Settled, Off, Observing, Withheld, Correcting}
use Rattle.iq.specs.declared.IqCalibration.{IqCalibration}
use Rattle.iq.specs.declared.Iq.{Iq}
use Rattle.iq.specs.declared.Iq.TheVariants as decision

abbrev pub calibration_of : IqCalibration → rules.Calibration
calibration_of c = record { gain = c.gain; phase = c.phase; centre = c.centre }

abbrev pub calibrated_of : Option IqCalibration → Calibrated
calibrated_of None = none
calibrated_of (Some c) = with (calibration_of c)

abbrev pub settled_of : Iq → Settled
settled_of decision.Off = Off
settled_of decision.Observing = Observing
settled_of (decision.Correcting rho) = Correcting (view64 rho)
settled_of decision.Withheld = Withheld
