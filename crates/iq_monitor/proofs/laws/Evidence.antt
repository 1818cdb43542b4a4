-- THE EVIDENCE of a list of hops is the rules' evidence: each answer, the monitor and every word. Assumes nothing.
use Rattle.std.specs.Prelude.{◌≡◌, Bool, true, false, cond, ℕ, zero, suc, ◌+◌, ◌*◌, ◌-◌, ◌<◌, leb, length, get_or, replicate, Float, None, Some, Ok}
use Rattle.std.proofs.Math.Path.{refl, ap}
use Rattle.std.proofs.Common.{sym, ◌∙◌, subst, arith, get_or-append-add}
use mathlib.Core.List.{List, [], ◌∷◌, ◌++◌}
use Rattle.std.proofs.Math.ListN.{get_or-append}
use Rattle.std.specs.Float.{nan}
use Rattle.std.specs.Float.Ieee.{lt}
use Rattle.complex.specs.Complex.{Complex}
use Rattle.rules.specs.Constants.{zero_f}
use Rattle.rules.specs.Lists.{up_to}
use Rattle.rules.proofs.laws.ListLaws.{length_up_to, get_d_up_to}
use Rattle.rules.specs.Monitor.{Hop, hop_end, Choice, nobody, channel_at, eligible, stronger, strongest, pair_of, Pair, Report, reported, suspicious, floor_of}
use Rattle.rules.specs.Monitor.{power_sum, real_sum, imag_sum, window_length, window_start, due, report_of, Answer, no_report, report, answer_to, next_window, answers}
use Rattle.rules.specs.Monitor.{open_window, monitor_words, channel_width}
use Rattle.rules.specs.Refusals.{bad_start}
use Rattle.iq_monitor.specs.declared.Heard.TheVariants as heard
use Rattle.iq_monitor.proofs.laws.WordsLaws.{added_words, no_words, powers_are}
use Rattle.iq_monitor.specs.Observe.{Seen, power_at, cross_in, report_in, evidence, fresh, first_or, monitor_of, full, closing, adding, accepted_of, observed}
use Rattle.iq_monitor.proofs.laws.ObserveLaws.{accepted_by, observed_by, is_some}
use Rattle.iq_monitor.specs.Hops.{Accepted, InOrder, last_end, followed, watched, answer_of, window_state, by_rules}

-- ---- a report looks at the product sum of one channel, which is one of the n

abbrev Below : ℕ → Choice → Type 0
Below n nobody = Unit {0}
Below n (channel_at k) = k < n

strongest_below : (n : ℕ) (P : ℕ → Float) (m : ℕ) → Below m (strongest n P m)
unfolding strongest
strongest_below n P zero = tt
strongest_below n P (suc k) = go (eligible n k) (strongest n P k) (strongest_below n P k)
  where
    weaken : (c : Choice) → Below k c → Below (suc k) c
    weaken nobody h = tt
    weaken (channel_at j) h = omega arith

    pick : (t : Bool) (j : ℕ) → j < k → Below (suc k) (cond t (channel_at j) (channel_at k))
    pick true j h = omega arith
    pick false j h = omega arith

    better : (c : Choice) → Below k c → Below (suc k) (stronger P c k)
    better nobody h = omega arith
    better (channel_at j) h = pick (lt (P k) (P j)) j h

    go : (t : Bool) (c : Choice) → Below k c → Below (suc k) (cond t (stronger P c k) c)
    go true c h = better c h
    go false c h = weaken c h

reported_same : (n : ℕ) (ps : List Float) (C D : ℕ → Complex) (first end : ℕ) → ((k : ℕ) → k < n → C k ≡ D k)
    → reported n ps C first end ≡ reported n ps D first end
unfolding reported
reported_same n ps C D first end h = ap finish (same (strongest n (power_at ps) n) (strongest_below n (power_at ps) n))
  where
    same : (c : Choice) → Below n c → pair_of n (power_at ps) C c ≡ pair_of n (power_at ps) D c
    same nobody b = refl
    same (channel_at k) b = ap (λ (z : Complex). pair_of n (power_at ps) (λ i. z) (channel_at k)) (h k b)

    finish : Pair → Report
    finish p =
        record {
          start = first;
          end = end;
          suspected = suspicious (floor_of ps) p.p p.q;
          coherence = p.coherence;
          floor = floor_of ps;
          strongest =
              p.p;
          mirror = p.q;
        }

-- ---- the report from a window's words

cross_is : (n : ℕ) (w : List Hop) (k : ℕ) → k < n → cross_in n (monitor_words n w) k ≡ record { re = real_sum n w k; im = imag_sum n w k }
unfolding monitor_words
cross_is n w k h =
    let p = up_to (power_sum w) n in
    let r = up_to (real_sum n w) n in
    let m = up_to (imag_sum n w) n in
    let s = replicate n zero_f in
    let lp = length_up_to (power_sum w) n in
    let lr = length_up_to (real_sum n w) n in
    let lm = length_up_to (imag_sum n w) n in
    let re : get_or (p ++ (r ++ (m ++ s))) (n + k) nan ≡ real_sum n w k =
    ap (λ (i : ℕ). get_or (p ++ (r ++ (m ++ s))) (i + k) nan) (sym lp)
    ∙ get_or-append-add p (r ++ (m ++ s)) k nan
    ∙ get_or-append r (m ++ s) nan k (omega arith)
    ∙ get_d_up_to nan (real_sum n w) n k h in
    let e : 2 * n + k ≡ length p + (length r + k) = omega arith in
    let im : get_or (p ++ (r ++ (m ++ s))) (2 * n + k) nan ≡ imag_sum n w k =
    ap (λ (i : ℕ). get_or (p ++ (r ++ (m ++ s))) i nan) e
    ∙ get_or-append-add p (r ++ (m ++ s)) (length r + k) nan
    ∙ get_or-append-add r (m ++ s) k nan
    ∙ get_or-append m s nan k (omega arith)
    ∙ get_d_up_to nan (imag_sum n w) n k h in
    λ i. record { re = re i; im = im i }

report_is : (n : ℕ) (w : List Hop) (first end : ℕ)
    → report_in n (monitor_words n w) first end ≡ reported n (up_to (power_sum w) n) (λ k. record { re = real_sum n w k; im = imag_sum n w k }) first end
unfolding report_in
report_is n w first end =
    ap (λ (ps : List Float). reported n ps (cross_in n (monitor_words n w)) first end) (powers_are n w)
    ∙ reported_same n (up_to (power_sum w) n) (cross_in n (monitor_words n w)) (λ k. record { re = real_sum n w k; im = imag_sum n w k }) first end (cross_is n w)

-- ---- one hop

-- what the rules say of the hop h after the window w
abbrev seen_by : ℕ → Bool → List Hop → Hop → Seen
seen_by n t w h =
    let next = cond t [] (w ++ (h ∷ [])) in
    record {
      monitor = window_state next (hop_end n h);
      answer = answer_of (cond t (report (report_of n w h)) no_report);
      words =
          monitor_words n next;
    }

abbrev pub stepped : ℕ → ℕ → List Hop → Hop → Seen
stepped n enough w h =
    let next = next_window n enough w h in
    record { monitor = window_state next (hop_end n h); answer = answer_of (answer_to n enough w h); words = monitor_words n next }

start_is : (w : List Hop) (end : ℕ) (h : Hop) → first_or (window_state w end).first h.start ≡ window_start (w ++ (h ∷ []))
start_is [] end h = refl
start_is (g ∷ w) end h = refl

state_is : (w : List Hop) (h : Hop) (end : ℕ) → monitor_of (Some (window_start (w ++ (h ∷ [])))) end ≡ window_state (w ++ (h ∷ [])) end
state_is [] h end = refl
state_is (g ∷ w) h end = refl

-- by whether it fills the window
hop_seen : (fs : Float) (w : List Hop) (end : ℕ) (h : Hop) (t : Bool) → let n = length h.channels in let m = window_state w end in
    cond t (closing m h.channels h.start (monitor_words n w)) (adding m h.channels h.start (monitor_words n w)) ≡ seen_by n t w h
hop_seen fs w end h true =
    let n = length h.channels in
    let all = w ++ (h ∷ []) in
    let r =
    ap (λ (l : List Float). report_in n l (first_or (window_state w end).first h.start) (hop_end n h)) (added_words n w h refl)
    ∙ ap (λ (f : ℕ). report_in n (monitor_words n all) f (hop_end n h)) (start_is w end h)
    ∙ report_is n all (window_start all) (hop_end n h) in
    λ i. record { monitor = monitor_of None (hop_end n h); answer = Ok (heard.Report (evidence (r i))); words = sym (no_words n) i }
hop_seen fs w end h false =
    let n = length h.channels in
    let s = ap (λ (f : ℕ). monitor_of (Some f) (hop_end n h)) (start_is w end h) ∙ state_is w h (hop_end n h) in
    λ i. record { monitor = s i; answer = Ok heard.NoReport; words = added_words n w h refl i }

accepted_step : (fs : Float) (w : List Hop) (end : ℕ) (h : Hop) → let n = length h.channels in
    accepted_of (window_state w end) fs h.channels h.start (monitor_words n w) ≡ stepped n (window_length fs) w h
unfolding full
accepted_step fs w end h =
    let n = length h.channels in
    let t = due n (window_length fs) w h in
    accepted_by t (window_state w end) fs h.channels h.start (monitor_words n w) (ap (λ (f : ℕ). leb (window_length fs) (hop_end n h - f)) (start_is w end h))
    ∙ hop_seen fs w end h t

end_is : (w : List Hop) (end : ℕ) → end ≡ (window_state w end).end
end_is [] end = refl
end_is (g ∷ w) end = refl

-- A HOP THAT IS ACCEPTED leads from the window w to the rules' next window, with the rules' answer
pub one_hop : (fs : Float) (n : ℕ) (w : List Hop) (end : ℕ) (h : Hop) → Accepted n end h
    → observed (window_state w end) fs n h.channels h.start (monitor_words n w) ≡ stepped n (window_length fs) w h
one_hop fs n w end h a =
    observed_by (window_state w end) fs n h.channels h.start (monitor_words n w) false false false a.some
    (ap (λ (e : ℕ). (bad_start e h.start).holds) (sym (end_is w end)) ∙ a.start) a.parts
    ∙ subst (λ (m : ℕ). accepted_of (window_state w end) fs h.channels h.start (monitor_words m w) ≡ stepped m (window_length fs) w h)
    (is_some n h.channels a.some).0 (accepted_step fs w end h)

-- ---- a list of hops

-- from any window
pub hops_seen : (fs : Float) (n : ℕ) (w : List Hop) (end : ℕ) (hs : List Hop) → InOrder n end hs
    → watched fs n (window_state w end) (monitor_words n w) hs ≡ by_rules fs n w end hs
unfolding watched answers open_window last_end
hops_seen fs n w end [] o = refl
hops_seen fs n w end (h ∷ hs) o =
    let enough = window_length fs in
    ap (λ (s : Seen). followed s (watched fs n s.monitor s.words hs)) (one_hop fs n w end h o.0)
    ∙ ap (followed (stepped n enough w h)) (hops_seen fs n (next_window n enough w h) (hop_end n h) hs o.1)

-- THE EVIDENCE, from a fresh monitor and words of 0
pub evidence_is : (fs : Float) (n : ℕ) (hs : List Hop) → InOrder n 0 hs → watched fs n fresh (replicate (channel_width * n) zero_f) hs ≡ by_rules fs n [] 0 hs
evidence_is fs n hs o = ap (λ (ws : List Float). watched fs n fresh ws hs) (sym (no_words n)) ∙ hops_seen fs n [] 0 hs o

-- ---- hops after hops, by the rules

module _ (n enough : ℕ) where
  pub answers_append : (w hs gs : List Hop) → answers n enough w (hs ++ gs) ≡ answers n enough w hs ++ answers n enough (open_window n enough w hs) gs
  unfolding answers open_window
  answers_append w [] gs = refl
  answers_append w (h ∷ hs) gs = ap (λ (l : List Answer). answer_to n enough w h ∷ l) (answers_append (next_window n enough w h) hs gs)

  pub window_append : (w hs gs : List Hop) → open_window n enough w (hs ++ gs) ≡ open_window n enough (open_window n enough w hs) gs
  unfolding open_window
  window_append w [] gs = refl
  window_append w (h ∷ hs) gs = window_append (next_window n enough w h) hs gs

pub end_append : (n end : ℕ) (hs gs : List Hop) → last_end n end (hs ++ gs) ≡ last_end n (last_end n end hs) gs
unfolding last_end
end_append n end [] gs = refl
end_append n end (h ∷ hs) gs = end_append n (hop_end n h) hs gs
