-- `narrowed` sees only the value, and gives a value of binary32. Assumes nothing.
use Rattle.std.specs.Prelude.{◌≡◌, ℕ, ◌*◌, ◌<◌, Bool, T, refl, Float}
use Rattle.std.proofs.Common.{ap, ◌∙◌}
use Rattle.std.specs.Float.{nan, inf, fin, binary32}
use Rattle.std.specs.Float.Ieee.{up, down, round, fits}
use Rattle.std.specs.Float.Ieee.Fits.{down_pos, round-fits, nan-fits, inf-fits}
use Rattle.std.specs.Float.Ieee.Exact.{HasValue}
use Rattle.std.specs.Float.Ieee.Scale.{round_same}
use Rattle.ieee.specs.Narrow.{narrowed}

pub narrowed_nan : narrowed nan ≡ nan
unfolding narrowed
narrowed_nan = refl

pub narrowed_value : (x : Float) (s : Bool) (a c : ℕ) → 0 < c → HasValue x s a c → narrowed x ≡ round binary32 s a c
unfolding narrowed
narrowed_value nan s a c C h = absurd h
narrowed_value (inf t) s a c C h = absurd h
narrowed_value (fin t m e) s a c C h = round_same binary32 t (m * up e) (down e) a c (down_pos e) C h.1 ∙ ap (λ (b : Bool). round binary32 b a c) h.0

pub narrowed_fits : (x : Float) → T (fits binary32 (narrowed x))
unfolding narrowed
narrowed_fits nan = nan-fits binary32
narrowed_fits (inf s) = inf-fits binary32 s
narrowed_fits (fin s m e) = round-fits binary32 s (m * up e) (down e)
