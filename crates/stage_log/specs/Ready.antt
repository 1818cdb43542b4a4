-- What the functions below document 01's operations ask of a ring. Definitions only.
use Rattle.std.specs.Prelude.{◌≡◌, ℕ, ◌+◌, ◌*◌, ◌^◌, ◌≤◌, ◌<◌, length}
use Rattle.rules.specs.Log.{Ring, Span, Marks, Sound, store_width}
use Rattle.stage_log.specs.View.{Logged, marks_at}

-- one entry more: a sound ring, whose count of dropped entries can rise
pub record Open (width cap : ℕ) (r : Ring) : Type 0 where
  pub sound : Sound width cap r
  pub dropped : r.dropped + 1 < 2 ^ 64

-- a mark: such a ring, and sums that are u64 numbers
pub record Markable (cap : ℕ) (m : Marks) (s : Span) : Type 0 where
  pub ring : Open 2 cap m.ring
  pub count : m.samples + s.len < 2 ^ 64
  pub last : s.start + s.len < 2 ^ 64

-- a mark in ring number k of the store
pub record Fits (cap : ℕ) (x : Logged) (k : ℕ) (s : Span) : Type 0 where
  pub store : length x.spans ≡ cap * store_width
  pub marks : Markable cap (marks_at cap x k) s

-- twelve rings with their counts, and a store of twelve parts
pub record Twelve (cap : ℕ) (x : Logged) : Type 0 where
  pub marks : length x.log.marks ≡ 12
  pub store : length x.spans ≡ cap * store_width

-- every ring is sound, and its counters are at most b
pub record Bounded (cap b : ℕ) (x : Logged) : Type 0 where
  pub twelve : Twelve cap x
  pub sound : (k : ℕ) → k < 12 → Sound 2 cap (marks_at cap x k).ring
  pub dropped : (k : ℕ) → k < 12 → (marks_at cap x k).ring.dropped ≤ b
  pub count : (k : ℕ) → k < 12 → (marks_at cap x k).samples ≤ b
