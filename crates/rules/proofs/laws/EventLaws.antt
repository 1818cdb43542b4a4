-- What events mark and record, one list of them behind another; each record has a repair's words. Assumes nothing.
use Rattle.std.specs.Prelude.{◌≡◌, refl, List, [], ◌∷◌, ◌++◌, ℕ, ◌+◌, length, replicate}
use Rattle.std.proofs.Common.{ap, sym, ◌∙◌, append_assoc, arith, length-append, length-take-le}
use Rattle.rules.specs.Impulse.{Event, uncertain, kept, mended}
use Rattle.rules.specs.Log.{Mark, marks_of, marks_of_event, repairs_of, repairs_of_event, long_runs, repair_words, repair_width}
use Rattle.rules.proofs.laws.RingReading.{AllWide}

pub marks_append : (m : Mark) (es fs : List Event) → marks_of m (es ++ fs) ≡ marks_of m es ++ marks_of m fs
unfolding marks_of
marks_append m [] fs = refl
marks_append m (e ∷ es) fs = ap (λ l. marks_of_event m e ++ l) (marks_append m es fs) ∙ sym (append_assoc (marks_of_event m e) (marks_of m es) (marks_of m fs))

pub repairs_append : (es fs : List Event) → repairs_of (es ++ fs) ≡ repairs_of es ++ repairs_of fs
unfolding repairs_of
repairs_append [] fs = refl
repairs_append (e ∷ es) fs = ap (λ l. repairs_of_event e ++ l) (repairs_append es fs) ∙ sym (append_assoc (repairs_of_event e) (repairs_of es) (repairs_of fs))

pub long_append : (es fs : List Event) → long_runs (es ++ fs) ≡ long_runs es + long_runs fs
unfolding long_runs
long_append [] fs = omega arith
long_append (e ∷ es) fs = omega (arith, long_append es fs)

-- ---- a repair's words

pub length_repair : (s n : ℕ) (o : List ℕ) → length (repair_words s n o) ≡ repair_width
unfolding repair_words
length_repair s n o = let q = length-take-le 4 (o ++ replicate 4 0) (omega (arith, length-append o (replicate 4 0))) in omega arith

pub repairs_wide : (es : List Event) → AllWide repair_width (repairs_of es)
unfolding repairs_of
repairs_wide [] = tt
repairs_wide (mended a n o ∷ es) = (length_repair a n o, repairs_wide es)
repairs_wide (kept a n l ∷ es) = repairs_wide es
repairs_wide (uncertain j ∷ es) = repairs_wide es
