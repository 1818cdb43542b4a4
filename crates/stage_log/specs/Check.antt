-- Document 01's number 5, as far as it speaks of rings; and the count of dropped spans. Definitions only.
use Rattle.std.specs.Prelude.{Bool, true, cond, ◌&&◌, ℕ, zero, suc, ◌+◌, ◌-◌, ◌^◌, min, ltb, leb, get_or}
use Rattle.rules.specs.Constants.{span_end_limit, counter_limit}
use Rattle.rules.specs.Log as rules
use Rattle.rules.specs.Log.{newest_end}
use Rattle.stage_log.specs.declared.Ring.{Ring}
use Rattle.stage_log.specs.declared.Log.{Log}
use Rattle.stage_log.specs.View.{Logged, fresh_marks, marks_at}

-- f 0, .., f (n - 1) all hold
unfoldable pub all_to : (ℕ → Bool) → ℕ → Bool
all_to f zero = true
all_to f (suc n) = all_to f n && f n

-- f 0 + .. + f (n - 1)
unfoldable pub sum_to : (ℕ → ℕ) → ℕ → ℕ
sum_to f zero = 0
sum_to f (suc n) = sum_to f n + f n

-- not: 'ring count or head out of range', 'a counter > 2^52'
abbrev pub ring_fits : ℕ → Ring → ℕ → Bool
ring_fits cap r counter = ltb r.head cap && leb r.count cap && leb r.dropped counter_limit && leb counter counter_limit

-- ring number k and its count
abbrev pub ring_of : Log → ℕ → Ring
ring_of l k = (get_or l.marks k fresh_marks).ring

abbrev pub count_of : Log → ℕ → ℕ
count_of l k = (get_or l.marks k fresh_marks).samples

unfoldable pub log_fits : ℕ → Log → Bool
log_fits cap l = all_to (λ k. ring_fits cap (ring_of l k) (count_of l k)) 12

-- not: 'newest span's sum > 2^49', where there is a span
unfoldable pub end_fits : ℕ → rules.Ring → Bool
end_fits cap r = cond (ltb 0 r.count) (leb (newest_end cap r) span_end_limit) true

unfoldable pub ends_fit : ℕ → Logged → Bool
ends_fit cap x = all_to (λ k. end_fits cap (marks_at cap x k).ring) 12

unfoldable pub spans_dropped : Log → ℕ
spans_dropped l = sum_to (λ k. (ring_of l k).dropped) 12

-- as a u64 has it
abbrev pub dropped_in_all : Log → ℕ
dropped_in_all l = min (spans_dropped l) (2 ^ 64 - 1)
