-- A hop handed to the chain: what it refuses, its answer in document 01's words, and the state and lent words after it. Definitions only.
use Rattle.std.specs.Prelude.{Bool, true, false, not, cond, ℕ, zero, suc, ◌*◌, eqb, length, Float, Result, Ok, Err}
use mathlib.Core.List.{List, [], ◌∷◌, foldl}
use Rattle.rules.specs.Iq.{Settled, Off, Observing, Withheld, Correcting}
use Rattle.rules.specs.Log.{Span, ring_number, iq, Uncertain, store_width}
use Rattle.rules.specs.Monitor.{Answer, report, suspected_span, channel_width}
use Rattle.rules.specs.Answers.{Said, nothing, refused}
use Rattle.rules.specs.Refusals.{Cause, first_of, bad_length}
use Rattle.stage_log.specs.View.{Logged, marked_at}
use Rattle.iq.specs.View.{settled_of}
use Rattle.refusal.specs.declared.Refusal.{Refusal}
use Rattle.refusal.specs.declared.Refusal.TheVariants as why
use Rattle.iq_monitor.specs.declared.Heard.{Heard}
use Rattle.iq_monitor.specs.declared.Heard.TheVariants as heard
use Rattle.iq_monitor.specs.Words.{words_fit}
use Rattle.iq_monitor.specs.Observe.{report_from, Seen, leaving, observed, hop_said}
use Rattle.chain_state.specs.declared.InputConditioner.{InputConditioner}
use Rattle.chain_state.specs.Causes.{bad_state, bad_spans}
use Rattle.chain_state.specs.Changed.{after_hop}

-- ---- what is refused before the monitor sees the hop

-- number 5, of the monitor's words
abbrev pub bad_words : InputConditioner → List Float → Cause
bad_words c ws = record { holds = not (words_fit c.settings.n ws); number = 5 }

-- 'A hop: 5, 4', and '5's rules on lent words come straight after 4'
unfoldable pub hop_refusal : InputConditioner → List ℕ → List Float → ℕ
hop_refusal c spans ws =
    first_of
    (bad_state c
    ∷ bad_length (store_width * c.settings.spans) (length spans)
    ∷ bad_length (channel_width * c.settings.n) (length ws)
    ∷ bad_spans c spans
    ∷ bad_words c ws
    ∷ [])

-- the refusal of each number: 5 and 4 are the only ones here
abbrev pub refusal_of : ℕ → Refusal
refusal_of k = cond (eqb k 4) why.BadLength why.BadState

-- and 0 for none
abbrev pub fitness : ℕ → Result (Unit {0}) Refusal
fitness zero = Ok tt
fitness (suc k) = Err (refusal_of (suc k))

-- ---- the answer

abbrev pub is_off_iq : Settled → Bool
is_off_iq Off = true
is_off_iq Observing = false
is_off_iq (Correcting r) = false
is_off_iq Withheld = false

abbrev pub is_observing : Settled → Bool
is_observing Off = false
is_observing Observing = true
is_observing (Correcting r) = false
is_observing Withheld = false

abbrev pub numbered : ℕ → Said Answer → Said Answer
numbered zero s = s
numbered (suc k) s = refused (suc k ∷ [])

-- '5, 4; IQ off, wrong length or n < 8 answers nothing; then 9, 7'
unfoldable pub hop_told : InputConditioner → List ℕ → ℕ → List ℕ → List Float → Said Answer
hop_told c xs start spans ws =
    let s = c.settings in
    numbered (hop_refusal c spans ws) (cond (is_off_iq (settled_of s.iq)) nothing (hop_said c.monitor s.fs s.n xs start ws))

-- ---- the state and the lent words

-- IQ off leaves the monitor as it was
unfoldable pub watched : InputConditioner → List ℕ → ℕ → List Float → Seen
watched c xs start ws =
    let s = c.settings in
    cond (is_off_iq (settled_of s.iq)) (leaving c.monitor ws (Ok heard.Nothing)) (observed c.monitor s.fs s.n xs start ws)

-- the window of a report that suspects it
abbrev pub suspected_by : Result Heard Refusal → List Span
suspected_by (Ok heard.Nothing) = []
suspected_by (Ok heard.NoReport) = []
suspected_by (Ok (heard.Report e)) = suspected_span (report (report_from e))
suspected_by (Err e) = []

abbrev pub uncertain : ℕ → Logged → Span → Logged
uncertain cap x m = marked_at cap x (ring_number iq Uncertain) m

-- 'A suspected window is marked Uncertain only while observing.'
abbrev pub noted : ℕ → Bool → Result Heard Refusal → Logged → Logged
noted cap observes a x = foldl (uncertain cap) x (cond observes (suspected_by a) [])

-- the state after a hop, what is answered, the span store, and the monitor's words
pub record Hopped : Type 0 where
  pub state : InputConditioner
  pub answer : Result Heard Refusal
  pub spans : List ℕ
  pub words : List Float

-- by what the monitor makes of it
abbrev pub followed : InputConditioner → List ℕ → Seen → Hopped
followed c spans s =
    let x = noted c.settings.spans (is_observing (settled_of c.settings.iq)) s.answer (record { log = c.notes.log; spans = spans }) in
    record { state = after_hop c s.monitor x.log; answer = s.answer; spans = x.spans; words = s.words }

unfoldable pub taken : InputConditioner → List ℕ → ℕ → List ℕ → List Float → Hopped
taken c xs start spans ws = followed c spans (watched c xs start ws)

-- what leaves all as it was
abbrev pub kept : InputConditioner → List ℕ → List Float → Result Heard Refusal → Hopped
kept c spans ws a = record { state = c; answer = a; spans = spans; words = ws }

-- refused by a number, or by none
abbrev pub by_number : ℕ → InputConditioner → List ℕ → List Float → Hopped → Hopped
by_number zero c spans ws h = h
by_number (suc k) c spans ws h = kept c spans ws (Err (refusal_of (suc k)))

unfoldable pub hop_of : InputConditioner → List ℕ → ℕ → List ℕ → List Float → Hopped
hop_of c xs start spans ws = by_number (hop_refusal c spans ws) c spans ws (taken c xs start spans ws)
