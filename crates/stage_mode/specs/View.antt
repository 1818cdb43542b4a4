-- A mode of the code as the rules'. Definitions only.
use Rattle.rules.specs.Mode.{Mode, off, observe, apply}
use Rattle.stage_mode.specs.declared.StageMode.{StageMode}
use Rattle.stage_mode.specs.declared.StageMode.TheVariants.{Off, Observe, Apply}

abbrev pub mode_of : StageMode → Mode
mode_of Off = off
mode_of Observe = observe
mode_of Apply = apply
