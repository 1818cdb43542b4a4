-- Document 01, the lines that the replay program prints. Definitions only.
use Rattle.std.specs.Prelude.{cond, List, [], ◌∷◌, ◌++◌, ℕ, eqb}
use Prim.Native.String.{String}
use Rattle.std.specs.Float.{binary64}
use Rattle.std.specs.Float.Ieee.{to_bits}
use Rattle.rules.specs.Iq.{Settled, Off, Observing, Withheld, Correcting}
use Rattle.rules.specs.Log.{Span, Stage, impulse, dc, iq, Mark, Repaired, Flagged, Corrected, Uncertain}
use Rattle.rules.specs.Chain.{DcLevel, no_level, level_is}
use Rattle.replay_text.specs.Text.{letters, decimal, hexadecimal, line}

abbrev pub stage_name : Stage → String
stage_name impulse = "impulse"
stage_name dc = "dc"
stage_name iq = "iq"

abbrev pub mark_name : Mark → String
mark_name Repaired = "repaired"
mark_name Flagged = "flagged"
mark_name Corrected = "corrected"
mark_name Uncertain = "uncertain"

-- a ring's name
unfoldable pub ring_name : Stage → Mark → List ℕ
ring_name s m = letters (stage_name s) ++ (letters " " ++ letters (mark_name m))

-- 'First samples guarded, then received, released, held.'
unfoldable pub sample_lines : ℕ → ℕ → ℕ → ℕ → List ℕ
sample_lines replaced seen final held =
    line (letters "replaced" ∷ decimal replaced ∷ [])
    ++ line (letters "seen" ∷ decimal seen ∷ letters "final" ∷ decimal final ∷ letters "held" ∷ decimal held ∷ [])

-- 'Count lines: stage, mark, count; nonzero ones, ring order.'
unfoldable pub count_line : Stage → Mark → ℕ → List ℕ
count_line s m n = cond (eqb n 0) [] (line (letters "count" ∷ ring_name s m ∷ decimal n ∷ []))

-- 'Then spans: stage, mark, start, length; ring order, oldest first.'
unfoldable pub span_line : Stage → Mark → Span → List ℕ
span_line s m x = line (letters "span" ∷ ring_name s m ∷ decimal x.start ∷ decimal x.len ∷ [])

-- 'Dropped: spans, repairs.'
unfoldable pub dropped_line : ℕ → ℕ → List ℕ
dropped_line spans repairs = line (letters "dropped" ∷ decimal spans ∷ decimal repairs ∷ [])

-- 'dc: re and im as 16-digit lower-case hexadecimal f64 words.'
unfoldable pub level_line : DcLevel → List ℕ
level_line no_level = line (letters "dc" ∷ letters "none" ∷ [])
level_line (level_is z) = line (letters "dc" ∷ hexadecimal (to_bits binary64 z.re) ∷ hexadecimal (to_bits binary64 z.im) ∷ [])

-- 'iq: off, observing, correcting, mismatch.'
abbrev pub settled_name : Settled → String
settled_name Off = "off"
settled_name Observing = "observing"
settled_name (Correcting r) = "correcting"
settled_name Withheld = "mismatch"

unfoldable pub settled_line : Settled → List ℕ
settled_line s = line (letters "iq" ∷ letters (settled_name s) ∷ [])
