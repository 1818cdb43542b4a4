-- Where each part of a state stands among its words: each is counted from the one before. Definitions only.
use Rattle.std.specs.Prelude.{ℕ, ◌+◌, ◌*◌}
use Rattle.rules.specs.Impulse.{window_size, lookahead_size}

-- ---- the settings: numbers, modes and tags; a coefficient is two words

abbrev pub rate : ℕ
rate = 0

abbrev pub channels : ℕ
channels = rate + 1

abbrev pub span_capacity : ℕ
span_capacity = channels + 1

abbrev pub repair_capacity : ℕ
repair_capacity = span_capacity + 1

abbrev pub impulse : ℕ
impulse = repair_capacity + 1

abbrev pub dc : ℕ
dc = impulse + 1

abbrev pub iq : ℕ
iq = dc + 1

abbrev pub coefficient : ℕ
coefficient = iq + 1

-- ---- the gate: its settings; what it received; the run, with its start, length and whether it is paused, and the sample before it; the block

abbrev pub apply : ℕ
apply = coefficient + 2

abbrev pub edition : ℕ
edition = apply + 1

abbrev pub block_length : ℕ
block_length = edition + 1

abbrev pub received : ℕ
received = block_length + 1

abbrev pub run : ℕ
run = received + 1

abbrev pub left : ℕ
left = run + 4

abbrev pub block : ℕ
block = left + 2

abbrev pub flagged : ℕ
flagged = block + 1

abbrev pub paused : ℕ
paused = flagged + 1

-- ---- the DC blocker: a level is two words

abbrev pub factor : ℕ
factor = paused + 1

abbrev pub updates : ℕ
updates = factor + 1

abbrev pub level : ℕ
level = updates + 1

-- ---- the mirror monitor: whether a window has begun, and its start; the last hop's end

abbrev pub begun : ℕ
begun = level + 2

abbrev pub end : ℕ
end = begun + 2

-- ---- the counts of samples, and the DC stage's

abbrev pub seen : ℕ
seen = end + 1

abbrev pub released : ℕ
released = seen + 1

abbrev pub held : ℕ
held = released + 1

abbrev pub clamped : ℕ
clamped = held + 1

-- ---- the notes' numbers: the repair ring's head, count and dropped, and the runs that were too long

abbrev pub repair_ring : ℕ
repair_ring = clamped + 1

abbrev pub long_runs : ℕ
long_runs = repair_ring + 3

-- ---- the suppressor's arrays

abbrev pub window : ℕ
window = long_runs + 1

abbrev pub sorted : ℕ
sorted = window + window_size

abbrev pub pending : ℕ
pending = sorted + window_size

-- ---- the log: twelve rings, three words each, and twelve counts

abbrev pub rings : ℕ
rings = pending + lookahead_size

abbrev pub counts : ℕ
counts = rings + 12 * 3

-- how many words there are
abbrev pub state_words : ℕ
state_words = counts + 12
