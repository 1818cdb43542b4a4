-- How a push moves the open run: one that ends is told whole, another grows by one at most. So what is told and what is open rise by three at most. Assumes
-- nothing.
use Rattle.std.proofs.Common.{subst, arith}
use Rattle.std.specs.Prelude.{Bool, true, false, cond, List, ℕ, ◌+◌, ◌-◌, ◌%◌, ◌≤◌, ltb, length, get_or, Float, Option, Some, None}
use Rattle.std.specs.Float.{nan}
use Rattle.rules.specs.Impulse.{Setting, width, lookahead, mendable}
use Rattle.impulse.specs.declared.Run.{Run}
use Rattle.impulse.specs.declared.Mending.{Mending}
use Rattle.impulse.specs.declared.Gate.{Gate}
use Rattle.impulse.specs.declared.ImpulseSuppressor.{ImpulseSuppressor}
use Rattle.impulse.specs.Machine.{arrived, entered, grown, read_run, Ending, going, kept_run, mended_run, closing, ending, Judgement, decided, judge, window_with}
use Rattle.impulse.specs.Machine.{sorted_with, pending_with, verdict, push, flagged_by}
use Rattle.impulse.specs.View.{repair_of, ended_of, ending_events, told, given}
use Rattle.impulse.specs.Room.{run_end}
use Rattle.impulse.proofs.laws.RoomLaws.{entered_keeps}
use Rattle.impulse.specs.Running.{emit, news}
use Rattle.impulse_slice.specs.Noted.{ended_end, run_length, events_size}

abbrev ending_size : Ending → ℕ
ending_size going = 0
ending_size (kept_run a n long) = n + 1
ending_size (mended_run a n os) = n + 1

-- a run that was open, what is said of its end, and the run that is open then
pub record Moves (before : Option Run) (ended : Ending) (after : Option Run) : Type 0 where
  pub size : ending_size ended + run_length after ≤ run_length before + 1
  pub last : ended_end (ended_of ended) ≤ run_end before

grown_moves : (o : Option Run) (j : ℕ) (paused : Bool) → Moves o going (Some (grown o j paused))
grown_moves None j paused = record { size = omega arith; last = omega arith }
grown_moves (Some r) j paused = record { size = omega arith; last = omega arith }

closing_moves : (s : Setting) (r : Run) (l : List ℕ) → Moves (Some r) (closing s r l) None
unfolding closing repair_of
closing_moves s r l = go (mendable s r.paused r.len)
  where
    go : (b : Bool)
        → Moves (Some r)
        (cond b (mended_run r.start r.len (read_run (lookahead s) l r.start r.len)) (kept_run r.start r.len (ltb s.run r.len))) None
    go true = record { size = omega arith; last = omega arith }
    go false = record { size = omega arith; last = omega arith }

ending_moves : (s : Setting) (o : Option Run) (l : List ℕ) → Moves o (ending s o l) None
ending_moves s None l = record { size = omega arith; last = omega arith }
ending_moves s (Some r) l = closing_moves s r l

judge_moves : (s : Setting) (g : Gate) (j : ℕ) (p : Float) (sorted : List Float) (l : List ℕ)
    → Moves g.mending.run (judge s g j p sorted l).ended (judge s g j p sorted l).gate.mending.run
unfolding judge
judge_moves s g j p sorted l =
    subst (λ (o : Mending). Moves o.run (judge s g j p sorted l).ended (judge s g j p sorted l).gate.mending.run) (entered_keeps g j).mending
    (go (entered g j) (flagged_by (width s) s.trim (entered g j).received sorted p))
  where
    go : (h : Gate) (b : Bool) → Moves h.mending.run (decided s h j l b).ended (decided s h j l b).gate.mending.run
    go h true = grown_moves h.mending.run j h.block.paused
    go h false = ending_moves s h.mending.run l

pub push_moves : (s : Setting) (m : ImpulseSuppressor) (x : ℕ) → Moves m.gate.mending.run (push s m x).ended (push s m x).state.gate.mending.run
unfolding push verdict
push_moves s m x =
    go (ltb m.gate.received s.half)
    (judge s (arrived m.gate) (m.gate.received - s.half) (get_or (window_with s m x) ((m.gate.received - s.half) % width s) nan) (sorted_with s m x)
    (pending_with s m x))
    (judge_moves s (arrived m.gate) (m.gate.received - s.half) (get_or (window_with s m x) ((m.gate.received - s.half) % width s) nan) (sorted_with s m x)
    (pending_with s m x))
  where
    go : (b : Bool) (d : Judgement) → Moves m.gate.mending.run d.ended d.gate.mending.run
        → let v = cond b (record { gate = arrived m.gate; uncertain = false; ended = going; pending = pending_with s m x }) d in
        Moves m.gate.mending.run v.ended v.gate.mending.run
    go true d q = record { size = omega arith; last = omega arith }
    go false d q = q

told_size : (j : ℕ) (doubt : Bool) (e : Ending) → events_size (told j doubt (ending_events e)) ≤ 2 + ending_size e
told_size j true going = omega arith
told_size j true (kept_run a n long) = omega arith
told_size j true (mended_run a n os) = omega arith
told_size j false going = omega arith
told_size j false (kept_run a n long) = omega arith
told_size j false (mended_run a n os) = omega arith

pub news_size : (s : Setting) (m : ImpulseSuppressor) (x : ℕ)
    → events_size (news s m x) + run_length (push s m x).state.gate.mending.run ≤ run_length m.gate.mending.run + 3
news_size s m x = omega (arith, told_size (m.gate.received - s.half) (push s m x).uncertain (push s m x).ended, (push_moves s m x).size)

-- ---- what a push hands on

given_most_lem : (a : Option ℕ) → length (given a) ≤ 1
given_most_lem None = omega arith
given_most_lem (Some x) = omega arith

pub emit_most : (s : Setting) (m : ImpulseSuppressor) (x : ℕ) → length (emit s m x) ≤ 1
emit_most s m x = given_most_lem (push s m x).answer
