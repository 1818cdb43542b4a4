-- The stage over new samples, from any state: what stays, what has room, and how far the notes' counters rise. Assumes nothing.
use Rattle.std.specs.Prelude.{◌≡◌, refl, List, [], ◌∷◌, ◌++◌, ℕ, ◌+◌, ◌*◌, ◌-◌, ◌^◌, ◌≤◌, ◌<◌, length, drop, Option, Some, None}
use Rattle.std.proofs.Common.{sym, ◌∙◌, subst, arith, length-append, length-drop}
use Rattle.rules.specs.Impulse.{Setting, Event}
use Rattle.impulse.specs.declared.Run.{Run}
use Rattle.impulse.specs.declared.ImpulseSuppressor.{ImpulseSuppressor}
use Rattle.impulse.specs.Machine.{setting_of}
use Rattle.impulse.specs.Room.{run_end, Room}
use Rattle.impulse.proofs.laws.RoomLaws.{room_step, received_step, setting_step}
use Rattle.impulse.specs.Running.{step, emit, news}
use Rattle.impulse_slice.specs.Noted.{Noted, note_all, state_after, handed, told, run_length, Roomy, events_size}
use Rattle.impulse_slice.proofs.laws.NotesLaws.{note_none, roomy_up, roomy_all}
use Rattle.impulse_slice.proofs.laws.MoveLaws.{news_size, emit_most}

-- ---- the suppressor

pub setting_after : (s : Setting) (m : ImpulseSuppressor) (xs : List ℕ) → setting_of (state_after s m xs).gate ≡ setting_of m.gate
setting_after s m [] = refl
setting_after s m (x ∷ xs) = setting_after s (step s m x) xs ∙ setting_step s m x

pub room_after : (s : Setting) (m : ImpulseSuppressor) (xs : List ℕ) → Room m.gate → m.gate.received + length xs ≤ 2 ^ 50 → Room (state_after s m xs).gate
room_after s m [] r h = r
room_after s m (x ∷ xs) r h = room_after s (step s m x) xs (room_step s m x r (omega arith)) (omega (arith, received_step s m x))

-- ---- what is handed on

-- no more than came
pub handed_most : (s : Setting) (m : ImpulseSuppressor) (xs : List ℕ) → length (handed s m xs) ≤ length xs
handed_most s m [] = omega arith
handed_most s m (x ∷ xs) = omega (arith, length-append (emit s m x) (handed s (step s m x) xs), emit_most s m x, handed_most s (step s m x) xs)

-- ---- what is told

size_append : (es fs : List Event) → events_size (es ++ fs) ≡ events_size es + events_size fs
size_append [] fs = omega arith
size_append (e ∷ es) fs = omega (arith, size_append es fs)

pub told_size : (s : Setting) (m : ImpulseSuppressor) (xs : List ℕ)
    → events_size (told s m xs) + run_length (state_after s m xs).gate.mending.run ≤ run_length m.gate.mending.run + 3 * length xs
told_size s m [] = omega arith
told_size s m (x ∷ xs) = omega (arith, size_append (news s m x) (told s (step s m x) xs), news_size s m x, told_size s (step s m x) xs)

run_short : (o : Option Run) (n : ℕ) → run_end o ≤ n → run_length o ≤ n
run_short None n h = omega arith
run_short (Some r) n h = omega arith

-- a state with room, counters that are in range, and so many samples: the notes have room for as many again
pub roomy_after : (span_capacity repair_capacity : ℕ) (n : Noted) (s : Setting) (m : ImpulseSuppressor) (xs : List ℕ)
    → (0 < length xs → Room m.gate × (m.gate.received + length xs ≤ 2 ^ 50))
    → Roomy span_capacity repair_capacity (2 ^ 52) n → Roomy span_capacity repair_capacity (2 ^ 53) (note_all span_capacity repair_capacity n (told s m xs))
roomy_after span_capacity repair_capacity n s m [] h r =
    subst (λ (x : Noted). Roomy span_capacity repair_capacity (2 ^ 53) x) (sym (note_none span_capacity repair_capacity n))
    (roomy_up span_capacity repair_capacity (2 ^ 52) (2 ^ 53) n (omega arith) r)
roomy_after span_capacity repair_capacity n s m (x ∷ xs) h r =
    let some : 0 < length (x ∷ xs) = omega arith in
    let k = (h some).1 in
    let b = (h some).0.behind in
    let e = run_short m.gate.mending.run m.gate.received b in
    let t = told_size s m (x ∷ xs) in
    roomy_up span_capacity repair_capacity (2 ^ 52 + events_size (told s m (x ∷ xs))) (2 ^ 53) (note_all span_capacity repair_capacity n (told s m (x ∷ xs)))
    (omega (arith, k, e, t))
    (roomy_all span_capacity repair_capacity (2 ^ 52) n (told s m (x ∷ xs)) r)

-- the same, of the samples behind the first `held`
pub roomy_run : (span_capacity repair_capacity : ℕ) (n : Noted) (s : Setting) (m : ImpulseSuppressor) (held : ℕ) (xs : List ℕ)
    → (held < length xs → Room m.gate × (m.gate.received + (length xs - held) ≤ 2 ^ 50))
    → Roomy span_capacity repair_capacity (2 ^ 52) n
    → Roomy span_capacity repair_capacity (2 ^ 53) (note_all span_capacity repair_capacity n (told s m (drop held xs)))
roomy_run span_capacity repair_capacity n s m held xs may r =
    let l = length-drop held xs in
    roomy_after span_capacity repair_capacity n s m (drop held xs)
    (λ z.
    let h : held < length xs = omega arith in
    let q = may h in
    let w = q.1 in
    let f : m.gate.received + length (drop held xs) ≤ 2 ^ 50 = omega arith in
    (q.0, f))
    r
