-- NUMBER 5'S TESTS ON RINGS find nothing in the repair ring and the long-run count that the rules give for at most 2 ^ 48 samples. Assumes nothing.
use Rattle.std.specs.Prelude.{◌≡◌, Bool, true, false, cond, List, [], ◌∷◌, ◌++◌, ℕ, zero, suc, ◌+◌, ◌*◌, ◌≤◌, ◌<◌, ltb, length, take, drop}
use Rattle.std.proofs.Common.{arith, length-append}
use Rattle.rules.specs.Impulse.{Setting, flagged, judged, before, start, closes, block_of, touches, mendable, Event, uncertain, kept, mended, events_at}
use Rattle.rules.specs.Impulse.{events, paused_in, happened}
use Rattle.rules.specs.Log.{Ring, empty_ring, append, repair_width, repaired, repairs_of, long_runs, Sound}
use Rattle.rules.proofs.laws.RingLaws.{append_sound, append_drops, empty_sound, filled}
use Rattle.rules.proofs.laws.RingReading.{repaired_sound}
use Rattle.rules.proofs.laws.EventLaws.{repairs_append, long_append}
use Rattle.rules.specs.Chain.{Config, setting_of, editions_of, impulse_events, repair_ring, long_runs_of}
use Rattle.rules.specs.Mode.{runs}
use Rattle.rules.specs.Constants.{total_limit}
use Rattle.stage_log.specs.View.{bare}
use Rattle.stage_log.specs.Check.{ring_fits}
use Rattle.stage_log.proofs.laws.CheckLaws.{InRange, range_ring}

-- ---- no more entries are dropped than were entered

filled_drops : (width cap : ℕ) (r : Ring) (es : List (List ℕ)) → Sound width cap r → (filled cap r es).dropped ≤ r.dropped + length es
filled_drops width cap r [] k = omega arith
filled_drops width cap r (e ∷ es) k = omega (arith, filled_drops width cap (append cap r e) es (append_sound width cap r e k), append_drops width cap r e k)

pub repaired_drops : (cap : ℕ) (rs : List (List ℕ)) → 0 < cap → (repaired cap rs).dropped ≤ length rs
unfolding repaired
repaired_drops cap rs h = omega (arith, filled_drops repair_width cap (empty_ring (repair_width * cap)) rs (empty_sound repair_width cap h))

-- ---- what is recorded when j is judged

-- at most one record, and one long run
record Few (es : List Event) : Type 0 where
  pub repairs : length (repairs_of es) ≤ 1
  pub longruns : long_runs es ≤ 1

few_at : (s : Setting) (F P : ℕ → Bool) (xs : List ℕ) (j : ℕ) → Few (events_at s F P xs j)
unfolding events_at repairs_of long_runs
few_at s F P xs j = go (P (block_of s j)) (closes F j) (mendable s (touches s P (start F j) (before F j)) (before F j))
  where
    long : (l : Bool) → cond l 1 0 ≤ 1
    long true = omega arith
    long false = omega arith

    go : (p c m : Bool)
        → Few (cond p (uncertain j ∷ []) []
        ++ cond c
        (cond m (mended (start F j) (before F j) (take (before F j) (drop (start F j) xs)))
        (kept (start F j) (before F j) (ltb s.run (before F j))) ∷ []) [])
    go true true true = record { repairs = omega arith; longruns = omega arith }
    go false true true = record { repairs = omega arith; longruns = omega arith }
    go true true false = record { repairs = omega arith; longruns = omega (arith, long (ltb s.run (before F j))) }
    go false true false = record { repairs = omega arith; longruns = omega (arith, long (ltb s.run (before F j))) }
    go true false m = record { repairs = omega arith; longruns = omega arith }
    go false false m = record { repairs = omega arith; longruns = omega arith }

-- ---- what is recorded in all

-- as many records and long runs as samples at most
pub record Recorded (b : ℕ) (es : List Event) : Type 0 where
  pub repairs : length (repairs_of es) ≤ b
  pub longruns : long_runs es ≤ b

recorded_none : (b : ℕ) → Recorded b []
unfolding repairs_of long_runs
recorded_none b = record { repairs = omega arith; longruns = omega arith }

events_recorded : (s : Setting) (F P : ℕ → Bool) (xs : List ℕ) (j : ℕ) → Recorded j (events s F P xs j)
unfolding events
events_recorded s F P xs zero = recorded_none 0
events_recorded s F P xs (suc j) =
    let es = events s F P xs j in
    let fs = events_at s F P xs j in
    let r = events_recorded s F P xs j in
    let f = few_at s F P xs j in
    let n = length-append (repairs_of es) (repairs_of fs) in
    record {
      repairs = rw (repairs_append es fs) (omega (arith, r.repairs, f.repairs));
      longruns =
          omega (arith, long_append es fs, r.longruns, f.longruns);
    }

pub impulse_recorded : (c : Config) (xs : List ℕ) → Recorded (length xs) (impulse_events c xs)
unfolding impulse_events happened
impulse_recorded c xs = go (runs c.impulse_mode)
  where
    P : ℕ → Bool
    P = paused_in (setting_of c) (editions_of c) xs

    go : (t : Bool) → Recorded (length xs) (cond t (events (setting_of c) (flagged (setting_of c) xs) P xs (judged (setting_of c) (length xs))) [])
    go true = let r = events_recorded (setting_of c) (flagged (setting_of c) xs) P xs (judged (setting_of c) (length xs)) in
        record { repairs = omega (arith, r.repairs); longruns = omega (arith, r.longruns) }
    go false = recorded_none (length xs)

-- THE REPAIR RING and the long-run count pass number 5's tests
pub repairs_good : (c : Config) (xs : List ℕ) → 0 < c.repairs → length xs ≤ total_limit
    → ring_fits c.repairs (bare (repair_ring c xs)) (long_runs_of c xs) ≡ true
unfolding repair_ring long_runs_of
repairs_good c xs p h =
    let rs = repairs_of (impulse_events c xs) in
    let k = repaired_sound c.repairs rs p in
    let r = impulse_recorded c xs in
    let d = repaired_drops c.repairs rs p in
    let i : InRange c.repairs (bare (repaired c.repairs rs)) (long_runs (impulse_events c xs)) =
    record { head_in = k.head_in; count_in = k.count_in; dropped = omega (arith, r.repairs); count = omega (arith, r.longruns) } in
    range_ring c.repairs (bare (repaired c.repairs rs)) (long_runs (impulse_events c xs)) i
