-- A list of hops handed to the monitor, and what the rules say of it in the monitor's types. Definitions only.
use Rattle.std.specs.Prelude.{◌≡◌, false, List, [], ◌∷◌, map, ℕ, Float, None, Some, Result, Ok}
use Rattle.rules.specs.Monitor.{Hop, hop_end, Answer, no_report, report, window_length, answers, open_window, monitor_words}
use Rattle.rules.specs.Refusals.{bad_start, any_beyond}
use Rattle.refusal.specs.declared.Refusal.{Refusal}
use Rattle.iq_monitor.specs.declared.Heard.{Heard}
use Rattle.iq_monitor.specs.declared.Heard.TheVariants as heard
use Rattle.iq_monitor.specs.declared.ImageMonitor.{ImageMonitor}
use Rattle.iq_monitor.specs.Observe.{Seen, evidence, monitor_of, is_none, observed}

-- ---- hops that are accepted

-- none of a hop's refusals, and not answered by nothing, where the last hop ended at `end`
pub record Accepted (n end : ℕ) (h : Hop) : Type 0 where
  pub some : is_none n h.channels ≡ false
  pub start : (bad_start end h.start).holds ≡ false
  pub parts : (any_beyond h.channels).holds ≡ false

-- each after the one before
abbrev pub InOrder : ℕ → ℕ → List Hop → Type 0
InOrder n end [] = Unit {0}
InOrder n end (h ∷ hs) = Accepted n end h × InOrder n (hop_end n h) hs

-- where the last hop ends
unfoldable pub last_end : ℕ → ℕ → List Hop → ℕ
last_end n end [] = end
last_end n end (h ∷ hs) = last_end n (hop_end n h) hs

-- ---- the monitor over a list of hops

pub record Watched : Type 0 where
  pub answered : List (Result Heard Refusal)
  pub monitor : ImageMonitor
  pub words : List Float

abbrev pub followed : Seen → Watched → Watched
followed s rest = record { answered = s.answer ∷ rest.answered; monitor = rest.monitor; words = rest.words }

unfoldable pub watched : Float → ℕ → ImageMonitor → List Float → List Hop → Watched
watched fs n m ws [] = record { answered = []; monitor = m; words = ws }
watched fs n m ws (h ∷ hs) = let s = observed m fs n h.channels h.start ws in followed s (watched fs n s.monitor s.words hs)

-- ---- the rules', in the same types

abbrev pub answer_of : Answer → Result Heard Refusal
answer_of no_report = Ok heard.NoReport
answer_of (report r) = Ok (heard.Report (evidence r))

-- the monitor whose open window is w
abbrev pub window_state : List Hop → ℕ → ImageMonitor
window_state [] end = monitor_of None end
window_state (h ∷ w) end = monitor_of (Some h.start) end

-- after hops hs, where the window w was open and the last hop ended at `end`
abbrev pub by_rules : Float → ℕ → List Hop → ℕ → List Hop → Watched
by_rules fs n w end hs =
    let left = open_window n (window_length fs) w hs in
    record { answered = map answer_of (answers n (window_length fs) w hs); monitor = window_state left (last_end n end hs); words = monitor_words n left }
