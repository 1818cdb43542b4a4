-- The log with its span store as the list of its twelve rings, and back; what a call marks, ring by ring. Definitions only.
use Rattle.std.specs.Prelude.{Bool, false, cond, ℕ, eqb}
use mathlib.Core.List.{List, foldl}
use Rattle.rules.specs.Iq.{Settled, Off, Observing, Withheld, Correcting}
use Rattle.rules.specs.Mode.{Mode, off, observe, apply}
use Rattle.rules.specs.Log as rules
use Rattle.rules.specs.Log.{Span, ring_number, dc, iq, Corrected, Uncertain, mark}
use Rattle.rules.specs.Lists.{up_to}
use Rattle.stage_log.specs.View.{Logged, marks_at}
use Rattle.impulse_slice.specs.Noted.{marks_for}
use Rattle.iq.specs.View.{settled_of}
use Rattle.stage_mode.specs.View.{mode_of}
use Rattle.chain_state.specs.declared.InputConditioner.{InputConditioner}
use Rattle.chain.specs.Stages.{impulse_told, released_span}

-- the twelve rings, in their order; `log_of` goes back
abbrev pub rings_of : ℕ → Logged → List rules.Marks
rings_of cap x = up_to (marks_at cap x) 12

-- ---- the marks of a call

-- whether the DC stage marks what is released in ring number k
abbrev pub dc_marks : Mode → ℕ → Bool
dc_marks off k = false
dc_marks observe k = false
dc_marks apply k = eqb k (ring_number dc Corrected)

-- whether the IQ stage does
abbrev pub iq_marks : Settled → ℕ → Bool
iq_marks Off k = false
iq_marks Observing k = false
iq_marks Withheld k = eqb k (ring_number iq Uncertain)
iq_marks (Correcting r) k = eqb k (ring_number iq Corrected)

-- a mark, if it goes to the ring
abbrev pub mark_if : ℕ → Bool → rules.Marks → Span → rules.Marks
mark_if cap goes r m = cond goes (mark cap r m) r

-- ring number k after a call that brings `new`: each stage marks its own rings and no other
unfoldable pub ring_after : ℕ → InputConditioner → List ℕ → ℕ → rules.Marks → rules.Marks
ring_after cap c new k r =
    let m = released_span c new in
    mark_if cap (iq_marks (settled_of c.settings.iq) k)
    (mark_if cap (dc_marks (mode_of c.settings.dc) k) (foldl (mark cap) r (marks_for k (impulse_told c new))) m) m
