-- Document 01, 'Impulse', and document 02, R-6: which blocks are paused, by any flags F. Definitions only.
use Rattle.std.specs.Prelude.{Bool, true, false, not, ℕ, zero, suc, ◌*◌, pos, Float}
use Rattle.std.specs.Float.{binary64}
use Rattle.std.specs.Float.Ieee.{mul, lt, le, of_int}
use Rattle.rules.specs.Constants.{entry_fraction, exit_fraction}
use Rattle.rules.specs.Lists.{count}

-- 'A configuration names the edition by an enum of these two.'
pub data Edition : Type 0 where
  first second : Edition

-- the same one for every block
abbrev pub always : Edition → ℕ → Edition
always e b = e

-- a fraction of the block length, in f64
abbrev pub share : Float → ℕ → Float
share fraction block = mul binary64 fraction (of_int binary64 (pos block))

-- 'more than 0.001 × block length flagged (f64)': n of a block are above the entry limit
unfoldable pub above_entry : ℕ → ℕ → Bool
above_entry block n = lt (share entry_fraction block) (of_int binary64 (pos n))

-- 'at most 0.0005 × block length flagged (f64)': they are within the exit limit
unfoldable pub within_exit : ℕ → ℕ → Bool
within_exit block n = le (of_int binary64 (pos n)) (share exit_fraction block)

-- The block before was paused or not, and n of it are flagged: whether a block that begins with this edition is paused.
-- 1: 'A block is paused exactly if the one before had more than 0.001 × block length flagged (f64).'
-- 2: 'Edition 2 pauses as now, but a paused stretch ends after its first block with at most 0.0005 × block length flagged (f64).'
abbrev pub pauses : Edition → ℕ → Bool → ℕ → Bool
pauses first block was n = above_entry block n
pauses second block false n = above_entry block n
pauses second block true n = not (within_exit block n)

-- block b, by the edition that each block begins with; none is before the first
unfoldable pub paused : (ℕ → Edition) → ℕ → (ℕ → Bool) → ℕ → Bool
paused E block F zero = false
paused E block F (suc b) = pauses (E (suc b)) block (paused E block F b) (count F (b * block) block)
