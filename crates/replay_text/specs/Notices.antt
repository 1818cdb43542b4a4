-- Document 01, what the replay program prints in place of a report. Definitions only.
use Rattle.std.specs.Prelude.{List, [], ◌∷◌, ℕ}
use Rattle.replay_text.specs.Text.{letters, decimal, line}

-- 'Refused: `refused` and its number only.'
unfoldable pub refused_text : ℕ → List ℕ
refused_text n = line (letters "refused" ∷ decimal n ∷ [])

-- 'All modes off: `off` only.'
unfoldable pub off_text : List ℕ
off_text = line (letters "off" ∷ [])
