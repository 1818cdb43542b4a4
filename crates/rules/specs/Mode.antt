-- How a stage runs: 'mode bytes impulse, DC, IQ (0 off, 1 observe, 2 apply)'. Definitions only.
use Rattle.std.specs.Prelude.{Bool, true, false}

pub data Mode : Type 0 where
  off observe apply : Mode

abbrev pub is_apply : Mode → Bool
is_apply off = false
is_apply observe = false
is_apply apply = true

abbrev pub runs : Mode → Bool
runs off = false
runs observe = true
runs apply = true
