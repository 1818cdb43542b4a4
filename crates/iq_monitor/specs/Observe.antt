-- What the monitor makes of a hop, over its structs: the machine that the code is. Definitions only.
use Rattle.std.specs.Prelude.{◌≡◌, Bool, true, not, ◌||◌, cond, List, [], ◌∷◌, ℕ, ◌+◌, ◌-◌, ◌*◌, ◌/◌, ◌≤◌, ◌<◌, ltb, leb, eqb, length, get_or, take, replicate, Float, Option, None, Some, Result, Ok, Err, unwrap_or}
use Rattle.std.specs.Float.{nan}
use Rattle.complex.specs.Complex.{Complex}
use Rattle.rules.specs.Constants.{zero_f}
use Rattle.rules.specs.Monitor.{Choice, nobody, channel_at, eligible, stronger, Report, pair_of, reported, window_length, Answer, no_report, report}
use Rattle.rules.specs.Monitor.{channel_width}
use Rattle.rules.specs.Answers.{Said, accepted, nothing, refused}
use Rattle.rules.specs.Refusals.{first_of, bad_start, any_beyond, first_beyond_from}
use Rattle.amplitude_limit.specs.Limit.{returned}
use Rattle.refusal.specs.declared.Refusal.{Refusal}
use Rattle.refusal.specs.declared.Refusal.TheVariants as why
use Rattle.refusal.specs.Words.{said_by}
use Rattle.iq_monitor.specs.declared.Pair as code
use Rattle.iq_monitor.specs.declared.Evidence.{Evidence}
use Rattle.iq_monitor.specs.declared.Heard.{Heard}
use Rattle.iq_monitor.specs.declared.Heard.TheVariants as heard
use Rattle.iq_monitor.specs.declared.ImageMonitor.{ImageMonitor}
use Rattle.iq_monitor.specs.Words.{added_hop}

-- ---- the code's types and the rules'

abbrev pub choice : Option ℕ → Choice
choice None = nobody
choice (Some k) = channel_at k

-- a channel of n
abbrev pub Among : ℕ → Option ℕ → Type 0
Among n None = Unit {0}
Among n (Some k) = k < n

abbrev pub evidence : Report → Evidence
evidence r =
    record {
      start = r.start;
      end = r.end;
      suspected = r.suspected;
      coherence = r.coherence;
      floor = r.floor;
      strongest = r.strongest;
      mirror =
          r.mirror;
    }

-- and back
abbrev pub report_from : Evidence → Report
report_from e =
    record {
      start = e.start;
      end = e.end;
      suspected = e.suspected;
      coherence = e.coherence;
      floor = e.floor;
      strongest = e.strongest;
      mirror =
          e.mirror;
    }

-- a hop's answer in document 01's words
abbrev pub said_heard : Heard → Said Answer
said_heard heard.Nothing = nothing
said_heard heard.NoReport = accepted no_report
said_heard (heard.Report e) = accepted (report (report_from e))

abbrev pub said : Result Heard Refusal → Said Answer
said r = said_by said_heard r

-- ---- the report, from the words

-- channel i's power
abbrev pub power_at : List Float → ℕ → Float
power_at ps i = get_or ps i zero_f

abbrev pub stronger_of : List Float → Choice → ℕ → Choice
stronger_of ps best k = stronger (power_at ps) best k

-- each channel from a on, before b, is eligible
abbrev pub EligibleFrom : ℕ → ℕ → ℕ → Type 0
EligibleFrom n a b = (i : ℕ) → a ≤ i → i < b → eligible n i ≡ true

-- the product sum of channel k
abbrev pub cross_in : ℕ → List Float → ℕ → Complex
cross_in n ws k = record { re = get_or ws (n + k) nan; im = get_or ws (2 * n + k) nan }

abbrev pub pair_in : ℕ → List Float → Choice → code.Pair
pair_in n ws c = let r = pair_of n (power_at (take n ws)) (cross_in n ws) c in record { p = r.p; q = r.q; coherence = r.coherence }

unfoldable pub report_in : ℕ → List Float → ℕ → ℕ → Report
report_in n ws first end = reported n (take n ws) (cross_in n ws) first end

-- ---- a hop

abbrev pub fresh : ImageMonitor
fresh = record { first = None; end = 0 }

-- where the window starts that a hop belongs to
abbrev pub first_or : Option ℕ → ℕ → ℕ
first_or first start = unwrap_or first start

-- the monitor after a hop, what is answered, and the words
pub record Seen : Type 0 where
  pub monitor : ImageMonitor
  pub answer : Result Heard Refusal
  pub words : List Float

abbrev pub monitor_of : Option ℕ → ℕ → ImageMonitor
monitor_of f e = record { first = f; end = e }

-- 'When end − first ≥ max(1, ceiling of 5·fs)'
unfoldable pub full : Float → ℕ → ℕ → Bool
full fs first end = leb (window_length fs) (end - first)

abbrev pub end_of : List ℕ → ℕ → ℕ
end_of xs start = start + length xs / 4

-- a hop xs that fills its window, and one that does not
abbrev pub closing : ImageMonitor → List ℕ → ℕ → List Float → Seen
closing m xs start ws =
    let n = length xs in
    let end = end_of xs start in
    record {
      monitor = monitor_of None end;
      answer = Ok (heard.Report (evidence (report_in n (added_hop xs ws n) (first_or m.first start) end)));
      words = replicate (channel_width * n) zero_f;
    }

abbrev pub adding : ImageMonitor → List ℕ → ℕ → List Float → Seen
adding m xs start ws =
    record {
      monitor = monitor_of (Some (first_or m.first start)) (end_of xs start);
      answer = Ok heard.NoReport;
      words = added_hop xs ws (length xs);
    }

-- one that is not refused
unfoldable pub accepted_of : ImageMonitor → Float → List ℕ → ℕ → List Float → Seen
accepted_of m fs xs start ws = cond (full fs (first_or m.first start) (end_of xs start)) (closing m xs start ws) (adding m xs start ws)

-- one that leaves all as it was
abbrev pub leaving : ImageMonitor → List Float → Result Heard Refusal → Seen
leaving m ws a = record { monitor = m; answer = a; words = ws }

-- 'wrong length or n < 8 answers nothing'
abbrev pub is_none : ℕ → List ℕ → Bool
is_none n xs = not (eqb (length xs) n) || ltb n 8

-- 'then 9, 7'
unfoldable pub observed : ImageMonitor → Float → ℕ → List ℕ → ℕ → List Float → Seen
observed m fs n xs start ws =
    cond (is_none n xs) (leaving m ws (Ok heard.Nothing))
    (cond (bad_start m.end start).holds (leaving m ws (Err why.Early))
    (cond (any_beyond xs).holds (leaving m ws (Err (why.OutOfRange (first_beyond_from 0 xs)))) (accepted_of m fs xs start ws)))

-- ---- the answer, in document 01's words

-- what the table returns: '9, 7'
unfoldable pub hop_returned : ℕ → ℕ → List ℕ → List ℕ
hop_returned end start xs = returned (first_of (bad_start end start ∷ any_beyond xs ∷ [])) (first_beyond_from 0 xs)

unfoldable pub answer_in : ImageMonitor → Float → List ℕ → ℕ → List Float → Answer
answer_in m fs xs start ws =
    let n = length xs in
    let first = first_or m.first start in
    let end = end_of xs start in
    cond (full fs first end) (report (report_in n (added_hop xs ws n) first end)) no_report

abbrev pub refused_or : List ℕ → Answer → Said Answer
refused_or [] a = accepted a
refused_or (n ∷ place) a = refused (n ∷ place)

unfoldable pub hop_said : ImageMonitor → Float → ℕ → List ℕ → ℕ → List Float → Said Answer
hop_said m fs n xs start ws = cond (is_none n xs) nothing (refused_or (hop_returned m.end start xs) (answer_in m fs xs start ws))
