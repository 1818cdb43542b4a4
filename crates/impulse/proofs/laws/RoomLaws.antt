-- A push leaves the gate room for the next one. Assumes nothing.
use Rattle.std.specs.Prelude.{◌≡◌, refl, Bool, true, false, cond, List, ℕ, ◌+◌, ◌-◌, ◌/◌, ◌%◌, ◌^◌, ◌≤◌, ◌<◌, ltb, eqb, get_or, Float, Option, Some, None}
use Rattle.std.proofs.Common.{ap, sym, subst, arith}
use Rattle.std.specs.Float.{nan}
use Rattle.rules.specs.Impulse.{Setting, standard, width}
use Rattle.impulse.specs.declared.Run.{Run}
use Rattle.impulse.specs.declared.GateSettings.{GateSettings}
use Rattle.impulse.specs.declared.Mending.{Mending}
use Rattle.impulse.specs.declared.Gate.{Gate}
use Rattle.impulse.specs.declared.ImpulseSuppressor.{ImpulseSuppressor}
use Rattle.impulse.specs.Machine.{setting_of, arrived, with_block, next_block, entered, grown, going, Judgement, decided, judge, window_with, sorted_with}
use Rattle.impulse.specs.Machine.{pending_with, verdict, push, flagged_by}
use Rattle.impulse.specs.Room.{run_end, Room}

-- ---- what entering a block leaves

pub record Entered (g h : Gate) : Type 0 where
  pub settings : h.settings ≡ g.settings
  pub received : h.received ≡ g.received
  pub mending : h.mending ≡ g.mending
  pub flagged : h.block.flagged ≤ g.block.flagged

pub entered_keeps : (g : Gate) (j : ℕ) → Entered g (entered g j)
unfolding entered
entered_keeps g j = go (eqb (j / g.settings.blocklen) g.block.number)
  where
    go : (b : Bool) → Entered g (cond b g (with_block g (next_block g (j / g.settings.blocklen))))
    go true = record { settings = refl; received = refl; mending = refl; flagged = omega arith }
    go false = record { settings = refl; received = refl; mending = refl; flagged = omega arith }

pub entered_setting : (g : Gate) (j : ℕ) → setting_of (entered g j) ≡ setting_of g
entered_setting g j = ap (λ (x : GateSettings). standard x.blocklen x.apply) (entered_keeps g j).settings

-- ---- room

grown_end : (o : Option Run) (j n : ℕ) (paused : Bool) → run_end o ≤ n → j ≤ n → run_end (Some (grown o j paused)) ≤ n + 1
grown_end None j n paused h k = omega arith
grown_end (Some r) j n paused h k = omega arith

judge_room : (s : Setting) (g : Gate) (j : ℕ) (p : Float) (sorted : List Float) (l : List ℕ)
    → Room g → g.received < 2 ^ 50 → j ≤ g.received → Room (judge s (arrived g) j p sorted l).gate
unfolding judge
judge_room s g j p sorted l r h k = go (flagged_by (width s) s.trim e.received sorted p)
  where
    e : Gate
    e = entered (arrived g) j

    t : Entered (arrived g) (entered (arrived g) j)
    t = entered_keeps (arrived g) j

    blocks : 0 < (entered (arrived g) j).settings.blocklen
    blocks = subst (λ (x : GateSettings). 0 < x.blocklen) (sym t.settings) r.blocks

    go : (b : Bool) → Room (decided s (entered (arrived g) j) j l b).gate
    go true =
        let o = subst (λ (x : Mending). run_end x.run ≤ g.received) (sym t.mending) r.behind in
        let w = grown_end e.mending.run j g.received e.block.paused o k in
        record {
          blocks = blocks;
          early = omega (arith, t.received);
          few = omega (arith, t.received, t.flagged, r.few);
          behind =
              omega (arith, w, t.received);
        }
    go false =
        record { blocks = blocks; early = omega (arith, t.received); few = omega (arith, t.received, t.flagged, r.few); behind = omega arith }

pub room_step : (s : Setting) (m : ImpulseSuppressor) (x : ℕ) → Room m.gate → m.gate.received < 2 ^ 50 → Room (push s m x).state.gate
unfolding push verdict
room_step s m x r h =
    go (ltb m.gate.received s.half)
    (judge s (arrived m.gate) (m.gate.received - s.half) (get_or (window_with s m x) ((m.gate.received - s.half) % width s) nan) (sorted_with s m x)
    (pending_with s m x))
    (judge_room s m.gate (m.gate.received - s.half) (get_or (window_with s m x) ((m.gate.received - s.half) % width s) nan) (sorted_with s m x)
    (pending_with s m x) r h (omega arith))
  where
    go : (b : Bool) (d : Judgement) → Room d.gate
        → Room (cond b (record { gate = arrived m.gate; uncertain = false; ended = going; pending = pending_with s m x }) d).gate
    go true d q = record { blocks = r.blocks; early = omega arith; few = omega (arith, r.few); behind = omega (arith, r.behind) }
    go false d q = q

-- ---- the count and the setting

judge_received : (s : Setting) (g : Gate) (j : ℕ) (p : Float) (sorted : List Float) (l : List ℕ) → (judge s g j p sorted l).gate.received ≡ g.received
unfolding judge
judge_received s g j p sorted l = go (flagged_by (width s) s.trim (entered g j).received sorted p)
  where
    go : (b : Bool) → (decided s (entered g j) j l b).gate.received ≡ g.received
    go true = (entered_keeps g j).received
    go false = (entered_keeps g j).received

pub received_step : (s : Setting) (m : ImpulseSuppressor) (x : ℕ) → (push s m x).state.gate.received ≡ m.gate.received + 1
unfolding push verdict
received_step s m x =
    go (ltb m.gate.received s.half)
    (judge s (arrived m.gate) (m.gate.received - s.half) (get_or (window_with s m x) ((m.gate.received - s.half) % width s) nan) (sorted_with s m x)
    (pending_with s m x))
    (judge_received s (arrived m.gate) (m.gate.received - s.half) (get_or (window_with s m x) ((m.gate.received - s.half) % width s) nan)
    (sorted_with s m x) (pending_with s m x))
  where
    go : (b : Bool) (d : Judgement) → d.gate.received ≡ m.gate.received + 1
        → (cond b (record { gate = arrived m.gate; uncertain = false; ended = going; pending = pending_with s m x }) d).gate.received ≡ m.gate.received + 1
    go true d q = refl
    go false d q = q

judge_setting : (s : Setting) (g : Gate) (j : ℕ) (p : Float) (sorted : List Float) (l : List ℕ) → setting_of (judge s g j p sorted l).gate ≡ setting_of g
unfolding judge
judge_setting s g j p sorted l = go (flagged_by (width s) s.trim (entered g j).received sorted p)
  where
    go : (b : Bool) → setting_of (decided s (entered g j) j l b).gate ≡ setting_of g
    go true = entered_setting g j
    go false = entered_setting g j

pub setting_step : (s : Setting) (m : ImpulseSuppressor) (x : ℕ) → setting_of (push s m x).state.gate ≡ setting_of m.gate
unfolding push verdict
setting_step s m x =
    go (ltb m.gate.received s.half)
    (judge s (arrived m.gate) (m.gate.received - s.half) (get_or (window_with s m x) ((m.gate.received - s.half) % width s) nan) (sorted_with s m x)
    (pending_with s m x))
    (judge_setting s (arrived m.gate) (m.gate.received - s.half) (get_or (window_with s m x) ((m.gate.received - s.half) % width s) nan)
    (sorted_with s m x) (pending_with s m x))
  where
    go : (b : Bool) (d : Judgement) → setting_of d.gate ≡ setting_of m.gate
        → setting_of (cond b (record { gate = arrived m.gate; uncertain = false; ended = going; pending = pending_with s m x }) d).gate ≡ setting_of m.gate
    go true d q = refl
    go false d q = q
