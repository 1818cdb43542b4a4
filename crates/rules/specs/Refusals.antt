-- Document 01, 'When the conditioner declines': the causes that speak of plain input, as tests with their numbers. Definitions only.
--
-- Where each cause stands. Limits are in Constants. A path is crates/NAME/specs/FILE.
--   1, 2, 3, 4      bad_rate, bad_size, bad_capacity, bad_length
--   5               chain_state/Causes bad_state, by chain_state/Fits state_fits; the impulse stage's arrays by impulse_arrays/Fits, rings by log/Check log_fits
--     lent words    chain_state/Causes bad_spans (a call, a hop), chain_hop/Hops bad_words (a hop), chain_undo/Undoing bad_records (repair undo)
--   6               short_slice
--   7               any_unusable, with its place unusable_at; any_beyond, with first_beyond_from
--   8, 9, 10        too_many, bad_start, unfit_coefficient
--   11, 12, 13      bad_gain, bad_phase, bad_centre
--   14, 17          replay_format/Format bad_header, broken_tail
--   15              met no more (document 02, R-7)
-- Where each operation's order stands.
--   making          making_refusal; 'all off answers nothing' first: chain_make/Making making_said
--   a call          chain/Calls call_refusal
--   a hop           chain_hop/Hops hop_refusal, then hop_told: IQ off, and iq_monitor/Observe hop_said
--   repair undo     chain_undo/Undoing undo_refusal
--   IQ undo         iq_undo_refusal
--   DC undo         dc_undo_refusal
--   validation      validation
--   replay          replay_format/Format input_refusal, then making, then a call's 8: replay_report/Report printed
use Rattle.std.specs.Prelude.{Bool, not, ◌&&◌, ◌||◌, cond, List, [], ◌∷◌, ℕ, suc, ◌+◌, ◌*◌, ltb, eqb, length, Float}
use Rattle.std.specs.Float.Ieee.{le}
use Rattle.complex.specs.Complex.{Complex, sample_of}
use Rattle.rules.specs.Constants.{one, rate_limit, part_limit, size_limit, span_limit, repair_limit, total_limit}
use Rattle.rules.specs.Guard.{magnitude, first_unusable_from}
use Rattle.rules.specs.Iq.{Calibration, gain_fits, phase_fits, centre_fits, accepted, ranged}
use Rattle.rules.specs.Log.{repair_width, store_width}
use Rattle.rules.specs.Monitor.{channel_width}

-- a cause and its number
pub record Cause : Type 0 where
  pub holds : Bool
  pub number : ℕ

-- the number of the first cause that holds, or 0
unfoldable pub first_of : List Cause → ℕ
first_of [] = 0
first_of (c ∷ cs) = cond c.holds c.number (first_of cs)

-- 'fs not in 1..1e7'
abbrev pub bad_rate : Float → Cause
bad_rate fs = record { holds = not (ranged one rate_limit fs); number = 1 }

-- 'n above 2048'
abbrev pub bad_size : ℕ → Cause
bad_size n = record { holds = ltb size_limit n; number = 2 }

-- 'Capacities (added): spans 1..256, repairs 1..4096.'
abbrev pub bad_capacity : ℕ → ℕ → Cause
bad_capacity spans repairs = record { holds = eqb spans 0 || ltb span_limit spans || eqb repairs 0 || ltb repair_limit repairs; number = 3 }

-- 'lent length not 6·repairs, 24·spans, 4·n, or output unequal'
abbrev pub bad_length : ℕ → ℕ → Cause
bad_length wanted lent = record { holds = not (eqb lent wanted); number = 4 }

-- 'slice shorter than held'
abbrev pub short_slice : ℕ → ℕ → Cause
short_slice held slice = record { holds = ltb slice held; number = 6 }

-- 'new part not usable': the place in the whole slice
abbrev pub unusable_at : ℕ → List ℕ → ℕ
unusable_at held new = first_unusable_from held new

abbrev pub any_unusable : ℕ → List ℕ → Cause
any_unusable held new = record { holds = ltb (unusable_at held new) (held + length new); number = 7 }

-- 'hop, DC undo or IQ undo part not within 1e18'
unfoldable pub within_limit : ℕ → Bool
within_limit w = le (magnitude (sample_of w).re) part_limit && le (magnitude (sample_of w).im) part_limit

unfoldable pub first_beyond_from : ℕ → List ℕ → ℕ
first_beyond_from k [] = k
first_beyond_from k (w ∷ ws) = let rest = first_beyond_from (suc k) ws in cond (within_limit w) rest k

abbrev pub any_beyond : List ℕ → Cause
any_beyond ws = record { holds = ltb (first_beyond_from 0 ws) (length ws); number = 7 }

-- 'total above 2^48'
abbrev pub too_many : ℕ → ℕ → Cause
too_many seen new = record { holds = ltb total_limit (seen + new); number = 8 }

-- 'hop start above 2^48 or before the last hop's end'
abbrev pub bad_start : ℕ → ℕ → Cause
bad_start end start = record { holds = ltb total_limit start || ltb start end; number = 9 }

-- 'coefficient unfit'
abbrev pub unfit_coefficient : Complex → Cause
unfit_coefficient r = record { holds = not (accepted r); number = 10 }

-- 'calibration gain, phase, centre'
abbrev pub bad_gain : Calibration → Cause
bad_gain c = record { holds = not (gain_fits c); number = 11 }

abbrev pub bad_phase : Calibration → Cause
bad_phase c = record { holds = not (phase_fits c); number = 12 }

abbrev pub bad_centre : Calibration → Cause
bad_centre c = record { holds = not (centre_fits c); number = 13 }

-- ---- the operations on plain input, in the paper's order

-- validation: '11 to 13, in that order'
unfoldable pub validation : Calibration → ℕ
validation c = first_of (bad_gain c ∷ bad_phase c ∷ bad_centre c ∷ [])

-- 'DC undo: 1, 4, 7'
unfoldable pub dc_undo_refusal : Float → ℕ → List ℕ → ℕ
dc_undo_refusal fs out ys = first_of (bad_rate fs ∷ bad_length (length ys) out ∷ any_beyond ys ∷ [])

-- 'IQ undo: 10, 7'
unfoldable pub iq_undo_refusal : Complex → List ℕ → ℕ
iq_undo_refusal r ys = first_of (unfit_coefficient r ∷ any_beyond ys ∷ [])

-- making: '1, 2, 3, 4'
unfoldable pub making_refusal : Float → ℕ → ℕ → ℕ → ℕ → ℕ → ℕ → ℕ
making_refusal fs n spans repairs lent_spans lent_repairs lent_words =
    first_of
    (bad_rate fs
    ∷ bad_size n
    ∷ bad_capacity spans repairs
    ∷ bad_length (repair_width * repairs) lent_repairs
    ∷ bad_length (store_width * spans) lent_spans
    ∷ bad_length (channel_width * n) lent_words
    ∷ [])
