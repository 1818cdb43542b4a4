-- What an acceptable slice leaves room for, the impulse stage on and off, and DC and IQ over what is ready. Assumes nothing.
use Rattle.std.specs.Prelude.{◌≡◌, refl, Bool, true, false, ◌&&◌, List, [], ◌++◌, map, ℕ, ◌+◌, ◌-◌, ◌^◌, ◌≤◌, ◌<◌, length, take}
use Rattle.std.proofs.Math.Path.{sym, ap}
use Rattle.std.proofs.Common.{◌∙◌, append-nil, arith, length-drop, drop_of_length-le, take_at, drop_at, lit<}
use Rattle.std.proofs.Math.Bool.{cond}
use Rattle.std.proofs.Math.ListN.{drop}
use Rattle.rules.specs.Mode.{Mode, off, observe, apply}
use Rattle.rules.specs.Log.{Span}
use Rattle.rules.specs.Constants.{total_limit}
use Rattle.stage_log.specs.View.{Logged, marks_at, marked_at}
use Rattle.stage_log.specs.Check.{log_fits}
use Rattle.stage_log.specs.Ready.{Twelve, Bounded}
use Rattle.stage_log.proofs.laws.CheckLaws.{ring_range, log_range, log_sound, marked_bounded}
use Rattle.impulse.specs.Room.{Room}
use Rattle.dc.specs.declared.DcBlocker.{DcBlocker}
use Rattle.dc.specs.Blocker.{level_of}
use Rattle.dc.proofs.laws.Cutting.{blocked_length, clamped_few}
use Rattle.impulse_slice.proofs.laws.NotesLaws.{bounded_up}
use Rattle.impulse_slice.specs.Noted.{state_after, handed, told, over, Roomy}
use Rattle.chain_state.specs.declared.InputConditioner.{InputConditioner}
use Rattle.chain_state.specs.Fits.{held_by}
use Rattle.chain_state.proofs.laws.FitsLaws.{Fit, state_fit}
use Rattle.chain.specs.Stages.{setting_in, new_part, machine_of, notes_in, impulse_after, impulse_out, impulse_told, dc_after, blocked_by, noted_dc, Acceptable}

-- ---- the log

-- number 5's tests bound every counter of the rings
pub fits_bounded : (cap : ℕ) (x : Logged) → Twelve cap x → log_fits cap x.log ≡ true → Bounded cap (2 ^ 52) x
unfolding marks_at
fits_bounded cap x t e =
    record {
      twelve = t;
      sound = λ k h. log_sound cap x k e t.store h;
      dropped = λ k h. (log_range cap x.log k e h).dropped;
      count = λ k h. (log_range cap x.log k e h).count;
    }

module _ (c : InputConditioner) (samples spans repairs : List ℕ) (a : Acceptable c samples spans repairs) where
  fit : Fit c
  fit = state_fit c a.stored.fits

  pub call_twelve : Twelve c.settings.spans (record { log = c.notes.log; spans = spans })
  call_twelve = record { marks = a.stored.marks; store = omega (arith, a.stored.spans_long) }

  pub call_roomy : Roomy c.settings.spans c.settings.repairs (2 ^ 52) (notes_in (machine_of c spans repairs))
  call_roomy =
      let r = ring_range c.settings.repairs c.notes.repairs c.notes.longruns fit.repairs in
      record {
        spans = fits_bounded c.settings.spans (record { log = c.notes.log; spans = spans }) call_twelve fit.log;
        repairs = record { some = fit.settings.some_repairs; long = a.stored.repairs_long; head_in = r.head_in; count_in = r.count_in };
        dropped = r.dropped;
        longruns = r.count;
      }

  -- ---- new samples

  pub new_length : length (new_part c samples) ≡ length samples - c.counts.held
  new_length = length-drop c.counts.held samples

  pub new_few : length (new_part c samples) ≤ total_limit
  new_few = omega (arith, new_length, a.few)

  -- where there are some, the stage has room for them
  pub call_room : c.settings.impulse ≡ true → c.counts.held < length samples
      → Room c.suppressor.gate × (c.suppressor.gate.received + (length samples - c.counts.held) ≤ 2 ^ 50)
  call_room on some =
      let n = fit.runs on in
      let few = a.few in
      let flags = fit.flags in
      (record { blocks = fit.blocks; early = omega arith; few = omega arith; behind = fit.run }, omega arith)

  -- ---- the impulse stage, off: nothing is held, and all is handed on

  module _ (off : c.settings.impulse ≡ false) where
    none_held : c.counts.held ≡ 0
    none_held = fit.held ∙ ap (λ (t : Bool). held_by (t && c.suppressor.gate.settings.apply) c.counts.seen) off

    pub off_after : c.suppressor ≡ impulse_after c (new_part c samples)
    unfolding impulse_after
    off_after = rw off

    pub off_told : [] ≡ impulse_told c (new_part c samples)
    unfolding impulse_told
    off_told = rw off

    pub off_out : samples ≡ impulse_out c (new_part c samples)
    unfolding impulse_out
    off_out =
        ap (λ (n : ℕ). drop n samples) (sym none_held)
        ∙ sym (ap (λ (t : Bool). cond t (handed (setting_in c) c.suppressor (new_part c samples)) (new_part c samples)) off)

    pub off_written : samples ≡ over (impulse_out c (new_part c samples)) samples
    off_written =
        sym (append-nil samples)
        ∙ ap (λ (l : List ℕ). samples ++ l) (sym (drop_of_length-le samples {i = length samples} (omega arith)))
        ∙ ap (λ (l : List ℕ). over l samples) off_out

  -- ---- and on

  module _ (on : c.settings.impulse ≡ true) where
    pub on_after : state_after (setting_in c) c.suppressor (new_part c samples) ≡ impulse_after c (new_part c samples)
    unfolding impulse_after
    on_after = rw on

    pub on_told : told (setting_in c) c.suppressor (new_part c samples) ≡ impulse_told c (new_part c samples)
    unfolding impulse_told
    on_told = rw on

    pub on_out : handed (setting_in c) c.suppressor (new_part c samples) ≡ impulse_out c (new_part c samples)
    unfolding impulse_out
    on_out = rw on

-- ---- the stages over what is ready

-- the DC stage hands on as many as it gets
pub blocked_by_length : (m : Mode) (b : DcBlocker) (ys : List ℕ) → length (blocked_by m b ys) ≡ length ys
blocked_by_length off b ys = refl
blocked_by_length observe b ys = refl
blocked_by_length apply b ys = blocked_length b.a (level_of b) ys

-- and its limit acts on no more of them
pub dc_few : (m : Mode) (b : DcBlocker) (ys : List ℕ) → (dc_after m b ys).clamped ≤ length ys
dc_few off b ys = omega arith
dc_few observe b ys = clamped_few b.a (level_of b) ys
dc_few apply b ys = clamped_few b.a (level_of b) ys

-- the IQ stage over the front of a slice that another stage wrote
pub filtered : (f : ℕ → ℕ) (front rest xs : List ℕ) (k : ℕ) → xs ≡ front ++ rest → length front ≡ k → map f (take k xs) ++ drop k xs ≡ map f front ++ rest
filtered f front rest xs k e h =
    ap (λ (l : List ℕ). map f (take k l) ++ drop k l) e
    ∙ (λ i. map f (take_at front rest k h i) ++ drop_at front rest k h i)

-- ---- marks over what is released

pub noted_dc_bounded : (cap b d : ℕ) (m : Mode) (x : Logged) (s : Span) → Bounded cap b x → b + 1 + s.len ≤ d → Bounded cap d (noted_dc cap m x s)
noted_dc_bounded cap b d off x s k h = bounded_up cap b d x (omega arith) k
noted_dc_bounded cap b d observe x s k h = bounded_up cap b d x (omega arith) k
noted_dc_bounded cap b d apply x s k h = bounded_up cap (b + 1 + s.len) d (marked_at cap x 6 s) h (marked_bounded cap b x 6 s k (lit< tt))
