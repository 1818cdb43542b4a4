-- What the stages make of new samples, from any state: the samples, the state and the stores. Definitions only.
use Rattle.std.specs.Prelude.{◌≡◌, true, cond, List, [], map, ℕ, ◌+◌, ◌-◌, ◌*◌, ◌≤◌, length, drop}
use Rattle.rules.specs.Impulse.{Setting, Event}
use Rattle.rules.specs.Iq.{Settled, Off, Observing, Withheld, Correcting, corrected_by}
use Rattle.rules.specs.Mode.{Mode, off, observe, apply}
use Rattle.rules.specs.Log as rules
use Rattle.rules.specs.Log.{Span, span_of, ring_number, dc, iq, Corrected, Uncertain, repair_width, store_width}
use Rattle.rules.specs.Constants.{total_limit}
use Rattle.stage_log.specs.declared.Notes.{Notes}
use Rattle.stage_log.specs.View.{Logged, bare, marked_at}
use Rattle.stage_log.specs.Check.{ends_fit}
use Rattle.impulse.specs.declared.ImpulseSuppressor.{ImpulseSuppressor}
use Rattle.impulse.specs.Machine.{setting_of}
use Rattle.impulse_slice.specs.Noted.{Noted, noted_of, note_all, state_after, handed, told}
use Rattle.dc.specs.declared.DcBlocker.{DcBlocker}
use Rattle.dc.specs.Blocker.{Blocked, after_slice, processed_all}
use Rattle.iq.specs.View.{settled_of}
use Rattle.stage_mode.specs.View.{mode_of}
use Rattle.chain_state.specs.declared.InputConditioner.{InputConditioner}
use Rattle.chain_state.specs.declared.Counts.{Counts}
use Rattle.chain_state.specs.Fits.{state_fits}
use Rattle.chain_state.specs.Changed.{after_call}

-- the new part of a slice: 'the held samples, then the new'
abbrev pub new_part : InputConditioner → List ℕ → List ℕ
new_part c samples = drop c.counts.held samples

-- ---- each stage

abbrev pub setting_in : InputConditioner → Setting
setting_in c = setting_of c.suppressor.gate

unfoldable pub impulse_after : InputConditioner → List ℕ → ImpulseSuppressor
impulse_after c new = cond c.settings.impulse (state_after (setting_in c) c.suppressor new) c.suppressor

unfoldable pub impulse_out : InputConditioner → List ℕ → List ℕ
impulse_out c new = cond c.settings.impulse (handed (setting_in c) c.suppressor new) new

unfoldable pub impulse_told : InputConditioner → List ℕ → List Event
impulse_told c new = cond c.settings.impulse (told (setting_in c) c.suppressor new) []

-- the blocker after samples, and on how many of them its limit acted
abbrev pub dc_after : Mode → DcBlocker → List ℕ → Blocked
dc_after off b ys = record { blocker = b; clamped = 0 }
dc_after observe b ys = after_slice b ys
dc_after apply b ys = after_slice b ys

-- 'Applying writes y and marks Corrected; observing leaves the sample.'
abbrev pub blocked_by : Mode → DcBlocker → List ℕ → List ℕ
blocked_by off b ys = ys
blocked_by observe b ys = ys
blocked_by apply b ys = processed_all b ys

abbrev pub noted_dc : ℕ → Mode → Logged → Span → Logged
noted_dc cap off x m = x
noted_dc cap observe x m = x
noted_dc cap apply x m = marked_at cap x (ring_number dc Corrected) m

-- 'Correcting marks released samples Corrected, withheld Uncertain.'
abbrev pub noted_iq : ℕ → Settled → Logged → Span → Logged
noted_iq cap Off x m = x
noted_iq cap Observing x m = x
noted_iq cap Withheld x m = marked_at cap x (ring_number iq Uncertain) m
noted_iq cap (Correcting r) x m = marked_at cap x (ring_number iq Corrected) m

-- ---- 'Stages run impulse, DC, IQ.'

-- a state with its span store and its repair store
pub record Machine : Type 0 where
  pub state : InputConditioner
  pub spans : List ℕ
  pub repairs : List ℕ

abbrev pub machine_of : InputConditioner → List ℕ → List ℕ → Machine
machine_of c spans repairs = record { state = c; spans = spans; repairs = repairs }

-- its log
abbrev pub notes_in : Machine → Noted
notes_in m = noted_of m.state.notes m.spans m.repairs

-- what the DC stage gets, the IQ stage gets, and what is released
abbrev pub dc_out : InputConditioner → List ℕ → List ℕ
dc_out c new = blocked_by (mode_of c.settings.dc) c.blocker (impulse_out c new)

unfoldable pub hands_on : InputConditioner → List ℕ → List ℕ
hands_on c new = map (corrected_by (settled_of c.settings.iq)) (dc_out c new)

-- the notes of the impulse stage, and then the marks over what is released
unfoldable pub notes_after : Machine → List ℕ → Noted
notes_after m new = note_all m.state.settings.spans m.state.settings.repairs (notes_in m) (impulse_told m.state new)

abbrev pub released_span : InputConditioner → List ℕ → Span
released_span c new = span_of c.counts.released (length (impulse_out c new))

unfoldable pub logged_after : Machine → List ℕ → Logged
logged_after m new =
    let c = m.state in
    let cap = c.settings.spans in
    noted_iq cap (settled_of c.settings.iq) (noted_dc cap (mode_of c.settings.dc) (notes_after m new).logged (released_span c new)) (released_span c new)

-- so many are new, so many of all that wait are released, and on so many of these the DC limit acted
abbrev pub counts_after : InputConditioner → ℕ → ℕ → ℕ → Counts
counts_after c new ready clamped =
    record {
      seen = c.counts.seen + new;
      released = c.counts.released + ready;
      held = c.counts.held + new - ready;
      clamped = c.counts.clamped + clamped;
    }

-- the rings of spans and the repair ring come with their stores
abbrev pub machine_after : InputConditioner → Counts → ImpulseSuppressor → DcBlocker → Logged → rules.Ring → ℕ → Machine
machine_after c n s b logged repairs longruns =
    let notes : Notes = record { log = logged.log; repairs = bare repairs; longruns = longruns } in
    machine_of (after_call c n s b notes) logged.spans repairs.words

-- the chain after new samples
unfoldable pub process : Machine → List ℕ → Machine
process m new =
    let c = m.state in
    let noted = notes_after m new in
    let after = dc_after (mode_of c.settings.dc) c.blocker (impulse_out c new) in
    machine_after c
    (counts_after c (length new) (length (impulse_out c new)) after.clamped)
    (impulse_after c new)
    after.blocker
    (logged_after m new)
    noted.repairs
    noted.longruns

-- ---- what a call that is not refused has

-- a fit state, with its stores
pub record Stored (c : InputConditioner) (spans repairs : List ℕ) : Type 0 where
  pub fits : state_fits c ≡ true
  pub marks : length c.notes.log.marks ≡ 12
  pub repairs_long : length repairs ≡ repair_width * c.settings.repairs
  pub spans_long : length spans ≡ store_width * c.settings.spans
  pub ends : ends_fit c.settings.spans (record { log = c.notes.log; spans = spans }) ≡ true

pub record Acceptable (c : InputConditioner) (samples spans repairs : List ℕ) : Type 0 where
  pub stored : Stored c spans repairs
  pub held_in : c.counts.held ≤ length samples
  pub few : length samples - c.counts.held ≤ total_limit - c.counts.seen
