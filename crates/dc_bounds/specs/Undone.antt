-- Document 02, R-12, 'How close DC undo comes': the statement, as a record with a part for each of its two sentences, and four that tie them to what stage
-- and operation write. Definitions only.
use Rattle.std.specs.Prelude.{◌≡◌, true, List, [], ◌∷◌, ℕ, ◌^◌, ◌≤◌, ◌<◌, length, take, Float}
use Rattle.ieee.specs.Bound.{Within, Near}
use Rattle.complex.specs.Complex.{Complex, word_of, sample_of, WordWithin}
use Rattle.rules.specs.Constants.{one, rate_limit, total_limit}
use Rattle.rules.specs.Lists.{at, All}
use Rattle.rules.specs.Dc.{Level, corner, first_level, blocked, advanced, level_after, blocked_all, restored, restored_all}
use Rattle.rules.specs.Iq.{ranged}
use Rattle.dc.specs.Undo.{undo_returned, undo_words}

-- what 'an applying stage started at sample 0' wrote of the samples xs, and what the undo writes of ys
abbrev pub stage_wrote : Float → List ℕ → List ℕ
stage_wrote fs xs = blocked_all (corner fs) first_level xs

abbrev pub undo_writes : Float → List ℕ → List ℕ
undo_writes fs ys = restored_all (corner fs) first_level ys

-- the undo's level after samples: 'the level advancing from y'
unfoldable pub rebuilt_after : Float → Level → List ℕ → Level
rebuilt_after a l [] = l
rebuilt_after a l (y ∷ ys) = rebuilt_after a (advanced a l (sample_of y)) ys

-- the level at sample i, as the stage has it and as the undo has it: after the samples before
abbrev pub level_at : Float → List ℕ → ℕ → Level
level_at fs xs i = level_after (corner fs) first_level (take i xs)

abbrev pub rebuilt_at : Float → List ℕ → ℕ → Level
rebuilt_at fs ys i = rebuilt_after (corner fs) first_level (take i ys)

-- 'within 2^-22': within 1 over this
abbrev pub undo_scale : ℕ
undo_scale = 2 ^ 22

-- a part x with its level l, and the part z that the undo writes: each part by itself, which asks less than 'both parts'
abbrev pub PartUndone : Float → Float → Float → Type 0
PartUndone x l z = Within x 1 1 → Within l 1 1 → Near x z 1 undo_scale

pub record SampleUndone (x l z : Complex) : Type 0 where
  pub re : PartUndone x.re l.re z.re
  pub im : PartUndone x.im l.im z.im

-- a sample that the chain can hand the stage: a usable part is within 2 ^ 57, and a mended one within 2 ^ 59
abbrev pub given_most : ℕ
given_most = 2 ^ 59

abbrev pub Given : ℕ → Type 0
Given x = WordWithin given_most x

-- what a chain that was made can hand the stage, and a second slice of its length
pub record Handed (fs : Float) (xs out : List ℕ) : Type 0 where
  pub rate : ranged one rate_limit fs ≡ true
  pub samples : All Given xs
  pub few : length xs ≤ total_limit
  pub room : length out ≡ length xs

-- for any fs and any samples
pub record DcUndone (fs : Float) (xs : List ℕ) : Type 0 where
  -- 'the undo, given its fs and all that the stage wrote, rebuilds the same level at each sample, bit for bit': the number of updates too
  pub rebuilds : (i : ℕ) → rebuilt_at fs (stage_wrote fs xs) i ≡ level_at fs xs i
  -- 'where both parts of a sample and of its level are at most 1 in size, each undone part lies within 2^-22 of the original'
  pub nears : (i : ℕ) → i < length xs
      → SampleUndone (sample_of (at xs i)) (level_at fs xs i).level (sample_of (at (undo_writes fs (stage_wrote fs xs)) i))
  -- these levels are the ones by which stage and undo write
  pub by_level : (i : ℕ) → i < length xs → at (stage_wrote fs xs) i ≡ word_of (blocked (level_at fs xs i).level (sample_of (at xs i)))
  pub by_rebuilt : (ys : List ℕ) (i : ℕ) → i < length ys → at (undo_writes fs ys) i ≡ word_of (restored (rebuilt_at fs ys i).level (sample_of (at ys i)))
  -- of what the chain can hand the stage, 'the undo' is the operation: it refuses nothing, and the second slice is what the sentences above speak of
  pub accepts : (out : List ℕ) → Handed fs xs out → undo_returned fs out (stage_wrote fs xs) ≡ []
  pub writes : (out : List ℕ) → Handed fs xs out → undo_words fs out (stage_wrote fs xs) ≡ undo_writes fs (stage_wrote fs xs)
