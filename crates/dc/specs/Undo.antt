-- What DC undo answers and writes. Definitions only.
use Rattle.std.specs.Prelude.{ℕ, cond, List, length, ◌==◌, Float}
use Rattle.rules.specs.Dc.{corner, first_level, restored_all}
use Rattle.rules.specs.Refusals.{dc_undo_refusal, first_beyond_from}
use Rattle.amplitude_limit.specs.Limit.{returned}

-- what the table returns: 'DC undo: 1, 4, 7'
unfoldable pub undo_returned : Float → List ℕ → List ℕ → List ℕ
undo_returned fs out ys = returned (dc_undo_refusal fs (length out) ys) (first_beyond_from 0 ys)

-- the second slice: all of it written, or as it was
unfoldable pub undo_words : Float → List ℕ → List ℕ → List ℕ
undo_words fs out ys = cond (dc_undo_refusal fs (length out) ys == 0) (restored_all (corner fs) first_level ys) out
