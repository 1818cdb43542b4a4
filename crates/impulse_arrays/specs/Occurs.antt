-- Whether a power occurs in a list. Definitions only.
use Rattle.std.specs.Prelude.{Bool, false, ◌||◌, List, [], ◌∷◌, Float}
use Rattle.std.specs.Float.Ieee.{eq}

unfoldable pub occurs : Float → List Float → Bool
occurs x [] = false
occurs x (y ∷ l) = eq x y || occurs x l
