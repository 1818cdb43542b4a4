-- NUMBER 5'S TESTS ON RINGS find nothing in the twelve rings of spans that the rules give for at most 2 ^ 48 samples and any accepted hops. Assumes nothing.
use Rattle.std.specs.Prelude.{◌≡◌, refl, Bool, true, false, cond, List, [], ◌∷◌, ◌++◌, ℕ, ◌+◌, ◌-◌, ◌^◌, ◌≤◌, ◌<◌, length}
use Rattle.std.proofs.Common.{ap, arith}
use Rattle.rules.proofs.laws.ListLaws.{length-map}
use Rattle.rules.specs.Pauses.{Edition}
use Rattle.rules.specs.Impulse.{Setting, flagged, judged, events, paused_in, happened}
use Rattle.rules.specs.Dc.{corner, first_level, blocked_all}
use Rattle.rules.specs.Iq.{Settled, Off, Observing, Withheld, Correcting, corrected_by}
use Rattle.rules.specs.Monitor.{Hop, hop_end, reported, Answer, no_report, report, window_length, window_start, due, report_of, answer_to, next_window, answers}
use Rattle.rules.specs.Monitor.{suspected_span, suspected_spans}
use Rattle.rules.specs.Log.{Span, span_of, Marks, marked, Stage, impulse, dc, iq, Mark, Repaired, Flagged, Corrected, Uncertain, marks_of}
use Rattle.rules.proofs.laws.MarkLaws.{lengths, AllEndBy, marked_sound, marked_samples, marked_dropped, marked_ends}
use Rattle.rules.specs.Chain.{Config, setting_of, editions_of, impulse_events, after_impulse, after_dc, settled_by, released, dc_marks, iq_marks, evidence, marks_in, ring_of}
use Rattle.rules.specs.Mode.{is_apply, runs}
use Rattle.rules.specs.Constants.{size_limit, total_limit}
use Rattle.stage_log.specs.View.{bare}
use Rattle.stage_log.specs.Check.{ring_fits, end_fits}
use Rattle.stage_log.proofs.laws.CheckLaws.{InRange, range_ring, end_fits_lem}
use Rattle.impulse.proofs.laws.Once.{Climbs, end_of, total, total_fits, bound, once}
use Rattle.dc.proofs.laws.Cutting.{blocked_length}
use Rattle.iq_monitor.proofs.laws.ObserveLaws.{is_next}
use Rattle.iq_monitor.specs.Hops.{InOrder, last_end}
use Rattle.iq_monitor.proofs.laws.WordBounds.{sound_hops, sound_none}
use Rattle.one_record.proofs.laws.GoodStages.{after_most}

-- ---- marks that climb

-- the marks climb, and end at b or before
abbrev pub Up : ℕ → ℕ → List Span → Type 0
Up lo b ms = Climbs lo ms × (end_of lo ms ≤ b)

pub lengths_total : (ms : List Span) → lengths ms ≡ total ms
unfolding lengths
lengths_total [] = refl
lengths_total (m ∷ ms) = ap (λ (n : ℕ). m.len + n) (lengths_total ms)

climbing_end : (lo b : ℕ) (ms : List Span) → Up lo b ms → AllEndBy b ms
climbing_end lo b [] u = tt
climbing_end lo b (m ∷ ms) u = let t = total_fits (m.start + m.len) ms u.0.1 in
    (omega (arith, u.1), climbing_end (m.start + m.len) b ms (u.0.1, u.1))

-- what number 5 tests of a ring of spans and its count
abbrev pub Good : ℕ → Marks → Type 0
Good cap r = (ring_fits cap (bare r.ring) r.samples ≡ true) × (end_fits cap r.ring ≡ true)

pub marks_good : (cap : ℕ) (ms : List Span) → 0 < cap → Up 0 (2 ^ 49) ms → Good cap (marked cap ms)
marks_good cap ms h u =
    let k = marked_sound cap ms h in
    let l = lengths_total ms in
    let t = total_fits 0 ms u.0 in
    let n = marked_samples cap ms h in
    let d = marked_dropped cap ms h in
    let r : InRange cap (bare (marked cap ms).ring) (marked cap ms).samples =
    record { head_in = k.head_in; count_in = k.count_in; dropped = omega (arith, u.1); count = omega (arith, u.1) } in (
      range_ring cap (bare (marked cap ms).ring) (marked cap ms).samples r,
      end_fits_lem cap (marked cap ms).ring (marked_ends cap ms (2 ^ 49) h (climbing_end 0 (2 ^ 49) ms u)),
    )

up_later : (lo a b : ℕ) (ms : List Span) → a ≤ b → Up lo a ms → Up lo b ms
up_later lo a b ms h u = (u.0, omega (arith, u.1))

up_none : (b : ℕ) → Up 0 b []
up_none b = (tt, omega arith)

up_one : (n b : ℕ) → n ≤ b → Up 0 b (span_of 0 n ∷ [])
up_one n b h = ((omega arith, tt), omega arith)

-- ---- the impulse stage

module _ (s : Setting) (F P : ℕ → Bool) (xs : List ℕ) where
  bound_in : (r : Mark) (j : ℕ) → bound r F j ≤ j
  bound_in Repaired j = omega arith
  bound_in Flagged j = omega arith
  bound_in Corrected j = omega arith
  bound_in Uncertain j = omega arith

  events_up : (r : Mark) (j : ℕ) → Up 0 j (marks_of r (events s F P xs j))
  events_up r j = let i = once s F P xs r j in (i.climb, omega (arith, i.ended, bound_in r j))

happened_up : (s : Setting) (E : ℕ → Edition) (xs : List ℕ) (r : Mark) → Up 0 (length xs) (marks_of r (happened s E xs))
unfolding happened
happened_up s E xs r =
    up_later 0 (judged s (length xs)) (length xs) (marks_of r (happened s E xs)) (omega arith)
    (events_up s (flagged s xs) (paused_in s E xs) xs r (judged s (length xs)))

pub impulse_up : (c : Config) (xs : List ℕ) (r : Mark) → Up 0 (length xs) (marks_of r (impulse_events c xs))
unfolding impulse_events marks_of
impulse_up c xs r = go (runs c.impulse_mode)
  where
    go : (t : Bool) → Up 0 (length xs) (marks_of r (cond t (happened (setting_of c) (editions_of c) xs) []))
    go true = happened_up (setting_of c) (editions_of c) xs r
    go false = up_none (length xs)

-- ---- what is released is no more than what came

dc_length : (c : Config) (xs : List ℕ) → length (after_dc c xs) ≡ length (after_impulse c xs)
unfolding after_dc
dc_length c xs = go (is_apply c.dc_mode)
  where
    go : (t : Bool) → length (cond t (blocked_all (corner c.fs) first_level (after_impulse c xs)) (after_impulse c xs)) ≡ length (after_impulse c xs)
    go true = blocked_length (corner c.fs) first_level (after_impulse c xs)
    go false = refl

pub released_length : (c : Config) (xs : List ℕ) → length (released c xs) ≤ length xs
unfolding released
released_length c xs =
    let m = length-map (corrected_by (settled_by c)) (after_dc c xs) in
    let d = dc_length c xs in
    let i = after_most c xs in
    omega arith

-- ---- the DC stage

pub dc_up : (c : Config) (xs : List ℕ) (r : Mark) → Up 0 (length xs) (dc_marks c xs r)
dc_up c xs Repaired = up_none (length xs)
dc_up c xs Flagged = up_none (length xs)
dc_up c xs Uncertain = up_none (length xs)
dc_up c xs Corrected = go (is_apply c.dc_mode)
  where
    go : (t : Bool) → Up 0 (length xs) (cond t (span_of 0 (length (released c xs)) ∷ []) [])
    go true = up_one (length (released c xs)) (length xs) (released_length c xs)
    go false = up_none (length xs)

-- ---- the windows that an observing monitor suspects

-- where the open window w starts, or may start
abbrev first_of : List Hop → ℕ → ℕ
first_of [] end = end
first_of (g ∷ w) end = g.start

starts : (w : List Hop) (h : Hop) (lo end : ℕ) → lo ≤ first_of w end → first_of w end ≤ end → end ≤ h.start
    → (lo ≤ window_start (w ++ (h ∷ []))) × (window_start (w ++ (h ∷ [])) ≤ h.start)
starts [] h lo end a b e = (omega arith, omega arith)
starts (g ∷ w) h lo end a b e = (a, omega arith)

first_of_lem : (w : List Hop) (h : Hop) (end : ℕ) → first_of (w ++ (h ∷ [])) end ≡ window_start (w ++ (h ∷ []))
first_of_lem [] h end = refl
first_of_lem (g ∷ w) h end = refl

-- one span, or none, and what follows
after_one : (t : Bool) (a e lo b : ℕ) (ms : List Span) → lo ≤ a → a ≤ e → ((l : ℕ) → l ≤ e → Up l b ms) → Up lo b (cond t (span_of a (e - a) ∷ []) [] ++ ms)
after_one true a e lo b ms h k r = let u = r (a + (e - a)) (omega arith) in ((h, u.0), u.1)
after_one false a e lo b ms h k r = r lo (omega arith)

-- the hop h, and what follows by whether it reports
one_up : (n length lo end b : ℕ) (w hs : List Hop) (h : Hop) → lo ≤ first_of w end → first_of w end ≤ end → end ≤ h.start
    → ((v : List Hop) (l : ℕ) → l ≤ first_of v (hop_end n h) → first_of v (hop_end n h) ≤ hop_end n h → Up l b (suspected_spans (answers n length v hs)))
    → Up lo b (suspected_span (answer_to n length w h) ++ suspected_spans (answers n length (next_window n length w h) hs))
unfolding reported
one_up n length lo end b w hs h x y e r = go (due n length w h)
  where
    begun : (lo ≤ window_start (w ++ (h ∷ []))) × (window_start (w ++ (h ∷ [])) ≤ h.start)
    begun = starts w h lo end x y e

    go : (t : Bool) → Up lo b (suspected_span (cond t (report (report_of n w h)) no_report) ++ suspected_spans (answers n length (cond t [] (w ++ (h ∷ []))) hs))
    go true =
        after_one (report_of n w h).suspected (window_start (w ++ (h ∷ []))) (hop_end n h) lo b (suspected_spans (answers n length [] hs)) begun.0
        (omega (arith, begun.1))
        (λ l k. r [] l k (omega arith))
    go false = let f = first_of_lem w h (hop_end n h) in r (w ++ (h ∷ [])) lo (omega (arith, begun.0)) (omega (arith, begun.1))

suspected_up : (n length lo end : ℕ) (w hs : List Hop) → lo ≤ first_of w end → first_of w end ≤ end → InOrder n end hs
    → Up lo (last_end n end hs) (suspected_spans (answers n length w hs))
unfolding answers suspected_spans last_end
suspected_up n length lo end w [] a b o = (tt, omega arith)
suspected_up n length lo end w (h ∷ hs) a b o =
    one_up n length lo end (last_end n (hop_end n h) hs) w hs h a b (is_next end h.start o.0.start).1
    (λ v l x y. suspected_up n length l (hop_end n h) v hs x y o.1)

pub evidence_up : (c : Config) (hs : List Hop) → c.n ≤ size_limit → InOrder c.n 0 hs → Up 0 (total_limit + 512) (suspected_spans (evidence c hs))
unfolding evidence
evidence_up c hs big o =
    let n = window_length c.fs in
    let s = sound_hops c.n n 0 [] hs big o (sound_none c.n) in
    up_later 0 (last_end c.n 0 hs) (total_limit + 512) (suspected_spans (answers c.n n [] hs)) s.late
    (suspected_up c.n n 0 0 [] hs (omega arith) (omega arith) o)

-- ---- the IQ stage

pub iq_up : (c : Config) (xs : List ℕ) (given : List Answer) (z : Settled) (r : Mark) → length xs ≤ total_limit → Up 0 (total_limit + 512) (suspected_spans given)
    → Up 0 (2 ^ 49) (iq_marks c xs given z r)
iq_up c xs given (Correcting q) Corrected h u = up_one (length (released c xs)) (2 ^ 49) (omega (arith, released_length c xs))
iq_up c xs given (Correcting q) Repaired h u = up_none (2 ^ 49)
iq_up c xs given (Correcting q) Flagged h u = up_none (2 ^ 49)
iq_up c xs given (Correcting q) Uncertain h u = up_none (2 ^ 49)
iq_up c xs given Withheld Uncertain h u = up_one (length (released c xs)) (2 ^ 49) (omega (arith, released_length c xs))
iq_up c xs given Withheld Repaired h u = up_none (2 ^ 49)
iq_up c xs given Withheld Flagged h u = up_none (2 ^ 49)
iq_up c xs given Withheld Corrected h u = up_none (2 ^ 49)
iq_up c xs given Observing Uncertain h u = up_later 0 (total_limit + 512) (2 ^ 49) (suspected_spans given) (omega arith) u
iq_up c xs given Observing Repaired h u = up_none (2 ^ 49)
iq_up c xs given Observing Flagged h u = up_none (2 ^ 49)
iq_up c xs given Observing Corrected h u = up_none (2 ^ 49)
iq_up c xs given Off r h u = up_none (2 ^ 49)

-- ---- all twelve rings

pub marks_up : (c : Config) (xs : List ℕ) (hs : List Hop) → length xs ≤ total_limit → c.n ≤ size_limit → InOrder c.n 0 hs → (st : Stage) (m : Mark)
    → Up 0 (2 ^ 49) (marks_in c xs hs st m)
marks_up c xs hs h big o impulse m = up_later 0 (length xs) (2 ^ 49) (marks_of m (impulse_events c xs)) (omega arith) (impulse_up c xs m)
marks_up c xs hs h big o dc m = up_later 0 (length xs) (2 ^ 49) (dc_marks c xs m) (omega arith) (dc_up c xs m)
marks_up c xs hs h big o iq m = iq_up c xs (evidence c hs) (settled_by c) m h (evidence_up c hs big o)

-- THE RINGS OF SPANS pass number 5's tests
pub ring_good : (c : Config) (xs : List ℕ) (hs : List Hop) → 0 < c.spans → length xs ≤ total_limit → c.n ≤ size_limit → InOrder c.n 0 hs
    → (st : Stage) (m : Mark) → Good c.spans (ring_of c xs hs st m)
unfolding ring_of
ring_good c xs hs p h big o st m = marks_good c.spans (marks_in c xs hs st m) p (marks_up c xs hs h big o st m)
