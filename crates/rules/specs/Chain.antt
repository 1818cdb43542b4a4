-- Document 01, 'Chain' and 'Lists of calls', and document 02, R-1 and R-6: what the rules give for a whole input, all the samples and all the hops. Definitions only.
use Rattle.std.specs.Prelude.{cond, List, [], ◌∷◌, map, ℕ, length, Float}
use Rattle.complex.specs.Complex.{Complex}
use Rattle.rules.specs.Pauses.{Edition, always}
use Rattle.rules.specs.Impulse.{Setting, standard, block_length, Event, happened, handed_on, held}
use Rattle.rules.specs.Dc.{corner, first_level, level_after, blocked_all, clamped_steps}
use Rattle.rules.specs.Iq.{Calibrated, Settled, Off, Observing, Withheld, Correcting, settled, corrected_by}
use Rattle.rules.specs.Mode.{Mode, is_apply, runs}
use Rattle.rules.specs.Log.{Ring, Span, span_of, Marks, marked, repaired, Stage, impulse, dc, iq, Mark, Repaired, Flagged, Corrected, Uncertain, marks_of}
use Rattle.rules.specs.Log.{repairs_of, long_runs}
use Rattle.rules.specs.Monitor.{Hop, Answer, window_length, answers, open_window, monitor_words, suspected_spans}

pub record Config : Type 0 where
  pub impulse_mode : Mode
  pub dc_mode : Mode
  pub iq_mode : Mode
  pub fs : Float
  pub centre : Float
  pub n : ℕ
  pub calibration : Calibrated
  pub spans : ℕ
  pub repairs : ℕ
  pub edition : Edition

abbrev pub setting_of : Config → Setting
setting_of c = standard (block_length c.fs) (is_apply c.impulse_mode)

-- the edition that each block begins with
abbrev pub editions_of : Config → ℕ → Edition
editions_of c = always c.edition

-- ---- 'Stages run impulse, DC, IQ.'

-- what happened in the impulse stage, and what it handed on
unfoldable pub impulse_events : Config → List ℕ → List Event
impulse_events c xs = cond (runs c.impulse_mode) (happened (setting_of c) (editions_of c) xs) []

unfoldable pub after_impulse : Config → List ℕ → List ℕ
after_impulse c xs = cond (runs c.impulse_mode) (handed_on (setting_of c) (editions_of c) xs) xs

-- 'Applying writes y and marks Corrected; observing leaves the sample.'
unfoldable pub after_dc : Config → List ℕ → List ℕ
after_dc c xs = cond (is_apply c.dc_mode) (blocked_all (corner c.fs) first_level (after_impulse c xs)) (after_impulse c xs)

abbrev pub settled_by : Config → Settled
settled_by c = settled c.iq_mode c.calibration c.centre

-- the released samples
unfoldable pub released : Config → List ℕ → List ℕ
released c xs = map (corrected_by (settled_by c)) (after_dc c xs)

-- 'held min(21, seen) if impulse applies, else 0'
abbrev pub held_of : Config → List ℕ → ℕ
held_of c xs = held (setting_of c) (length xs)

-- the DC level, or none where the stage is off
pub data DcLevel : Type 0 where
  no_level : DcLevel
  level_is : Complex → DcLevel

unfoldable pub dc_level : Config → List ℕ → DcLevel
dc_level c xs = cond (runs c.dc_mode) (level_is (level_after (corner c.fs) first_level (after_impulse c xs)).level) no_level

-- 'the log counts those steps' (document 02, R-1), of an observing stage too
unfoldable pub clamped_of : Config → List ℕ → ℕ
clamped_of c xs = cond (runs c.dc_mode) (clamped_steps (corner c.fs) first_level (after_impulse c xs)) 0

-- ---- the marks that each ring gets

-- one mark over all that was released
abbrev pub whole : Config → List ℕ → List Span
whole c xs = span_of 0 (length (released c xs)) ∷ []

abbrev pub dc_marks : Config → List ℕ → Mark → List Span
dc_marks c xs Corrected = cond (is_apply c.dc_mode) (whole c xs) []
dc_marks c xs Repaired = []
dc_marks c xs Flagged = []
dc_marks c xs Uncertain = []

-- 'Correcting marks released samples Corrected, withheld Uncertain.' 'A suspected window is marked Uncertain only while observing.'
abbrev pub iq_marks : Config → List ℕ → List Answer → Settled → Mark → List Span
iq_marks c xs given (Correcting r) Corrected = whole c xs
iq_marks c xs given (Correcting r) Repaired = []
iq_marks c xs given (Correcting r) Flagged = []
iq_marks c xs given (Correcting r) Uncertain = []
iq_marks c xs given Withheld Uncertain = whole c xs
iq_marks c xs given Withheld Repaired = []
iq_marks c xs given Withheld Flagged = []
iq_marks c xs given Withheld Corrected = []
iq_marks c xs given Observing Uncertain = suspected_spans given
iq_marks c xs given Observing Repaired = []
iq_marks c xs given Observing Flagged = []
iq_marks c xs given Observing Corrected = []
iq_marks c xs given Off m = []

-- ---- the evidence of the hops

-- 'Every IQ mode but off.'
unfoldable pub evidence : Config → List Hop → List Answer
evidence c hs = answers c.n (window_length c.fs) [] hs

unfoldable pub last_words : Config → List Hop → List Float
last_words c hs = monitor_words c.n (open_window c.n (window_length c.fs) [] hs)

-- ---- the log

abbrev pub marks_in : Config → List ℕ → List Hop → Stage → Mark → List Span
marks_in c xs hs impulse m = marks_of m (impulse_events c xs)
marks_in c xs hs dc m = dc_marks c xs m
marks_in c xs hs iq m = iq_marks c xs (evidence c hs) (settled_by c) m

unfoldable pub ring_of : Config → List ℕ → List Hop → Stage → Mark → Marks
ring_of c xs hs s m = marked c.spans (marks_in c xs hs s m)

unfoldable pub repair_ring : Config → List ℕ → Ring
repair_ring c xs = repaired c.repairs (repairs_of (impulse_events c xs))

unfoldable pub long_runs_of : Config → List ℕ → ℕ
long_runs_of c xs = long_runs (impulse_events c xs)
