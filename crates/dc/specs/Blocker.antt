-- The struct `DcBlocker` as the rules' level, and back, and what the blocker does with a sample, a slice, and calls after calls. Definitions only.
use Rattle.std.specs.Prelude.{ℕ, suc, ◌+◌, List, [], ◌∷◌, ◌++◌, Float}
use Rattle.std.specs.Float.{binary64}
use Rattle.complex.specs.Complex.{Complex, sum, scaled, word_of, sample_of}
use Rattle.complex.specs.View.{view64, make64}
use Rattle.rules.specs.Dc as rules
use Rattle.rules.specs.Dc.{Level, weight, clamps, clamped, stepped, blocked, advanced, level_after, blocked_all, clamped_steps, restored_all}
use Rattle.dc.specs.declared.DcBlocker.{DcBlocker}
use Rattle.dc.specs.declared.Push.{Push}
use Rattle.dc.specs.declared.Taken.{Taken}

abbrev pub level_of : DcBlocker → Level
level_of b = record { updates = b.n; level = view64 b.dc }

abbrev pub blocker_of : Float → Level → DcBlocker
blocker_of a l = record { a = a; n = l.updates; dc = make64 l.level }

-- a level moved by y as it is
abbrev pub pushed : Float → Level → Complex → Level
pushed a l y = record { updates = suc l.updates; level = sum binary64 l.level (scaled binary64 y (weight a l.updates)) }

-- what y moves a level by, and whether the limit acted
abbrev pub push_of : Complex → Push
push_of y = record { by = make64 (clamped y); clamped = clamps y }

-- y moves the level
abbrev pub moved_by : DcBlocker → Complex → DcBlocker
moved_by b y = blocker_of b.a (advanced b.a (level_of b) y)

-- a sample x comes in: the blocker after it
unfoldable pub processed : DcBlocker → ℕ → DcBlocker
processed b x = blocker_of b.a (stepped b.a (level_of b) x)

-- and x less the level goes out. Document 02, R-1: 'A DC step says beside its sample whether the limit acted'
unfoldable pub taken_of : DcBlocker → ℕ → Taken
taken_of b x = record { word = word_of (blocked (level_of b).level (sample_of x)); clamped = clamps (blocked (level_of b).level (sample_of x)) }

-- y comes in: the blocker after it
unfoldable pub restored : DcBlocker → ℕ → DcBlocker
restored b y = moved_by b (sample_of y)

-- and y and the level go out
unfoldable pub restored_word : DcBlocker → ℕ → ℕ
restored_word b y = word_of (rules.restored (level_of b).level (sample_of y))

-- ---- all samples of a slice: the blocker after them, on how many the limit acted, and the words that applying and undoing write
abbrev pub blocker_after : DcBlocker → List ℕ → DcBlocker
blocker_after b xs = blocker_of b.a (level_after b.a (level_of b) xs)

abbrev pub clamped_in : DcBlocker → List ℕ → ℕ
clamped_in b xs = clamped_steps b.a (level_of b) xs

-- a blocker, and on how many samples before it the limit acted
pub record Blocked : Type 0 where
  pub blocker : DcBlocker
  pub clamped : ℕ

abbrev pub after_slice : DcBlocker → List ℕ → Blocked
after_slice b xs = record { blocker = blocker_after b xs; clamped = clamped_in b xs }

abbrev pub processed_all : DcBlocker → List ℕ → List ℕ
processed_all b xs = blocked_all b.a (level_of b) xs

abbrev pub undone_all : DcBlocker → List ℕ → List ℕ
undone_all b ys = restored_all b.a (level_of b) ys

-- ---- calls after calls, each as the contract of `process` has it; `observe` answers the same
unfoldable pub after_calls : DcBlocker → List (List ℕ) → DcBlocker
after_calls b [] = b
after_calls b (xs ∷ calls) = after_calls (blocker_after b xs) calls

-- the words of all calls, one call's after the other's
unfoldable pub written_by : DcBlocker → List (List ℕ) → List ℕ
written_by b [] = []
written_by b (xs ∷ calls) = processed_all b xs ++ written_by (blocker_after b xs) calls

-- on how many samples of all calls the limit acted
unfoldable pub clamped_by : DcBlocker → List (List ℕ) → ℕ
clamped_by b [] = 0
clamped_by b (xs ∷ calls) = clamped_in b xs + clamped_by (blocker_after b xs) calls
