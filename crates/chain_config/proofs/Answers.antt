-- A conjunction by the answers of its tests. Assumes nothing.
use mathlib.Core.Path.{◌≡◌, sym, ap, ◌∙◌}
use mathlib.Core.Bool.{Bool, ◌&&◌}

pub two : (x y s t : Bool) → x ≡ s → y ≡ t → (s && t) ≡ (x && y)
two x y s t f g = sym (ap (λ (b : Bool). b && y) f ∙ ap (λ (b : Bool). s && b) g)

pub three : (x y z s t u : Bool) → x ≡ s → y ≡ t → z ≡ u → (s && t && u) ≡ (x && y && z)
three x y z s t u f g h = two (x && y) z (s && t) u (sym (two x y s t f g)) h

pub four : (x y z w s t u v : Bool) → x ≡ s → y ≡ t → z ≡ u → w ≡ v → (s && t && u && v) ≡ (x && y && z && w)
four x y z w s t u v f g h k = two (x && y && z) w (s && t && u) v (sym (three x y z s t u f g h)) k
