-- Number 5's tests on the impulse stage find nothing after usable samples, at most 2 ^ 48 of them. Assumes nothing.
use Rattle.std.specs.Prelude.{◌≡◌, refl, Bool, false, ◌&&◌, List, ℕ, ◌+◌, ◌-◌, ◌*◌, ◌^◌, ◌≤◌, ◌<◌, min, pos, T, ltb, Float, length, get_or, take, replicate, Option, Some, None}
use Rattle.std.proofs.Math.Path.{ap}
use Rattle.std.proofs.Common.{◌∙◌, arith, lit≤, lit<, length-take-le}
use Rattle.std.proofs.Math.Bool.{true}
use borrow.Author.Tests.{lt-ltb, le-leb, eq-eqb}
use Rattle.std.proofs.Math.Dec.{eqb}
use Rattle.std.specs.Float.Ieee.{binary64, le, lt, to_bits, of_bits}
use Rattle.std.specs.Float.Ieee.Bits.{is_true}
use Rattle.std.proofs.Math.ListN.{get_or-append}
use Rattle.ieee.proofs.laws.Bounds.{within_mono}
use Rattle.ieee.specs.Plain.{sign_clear}
use Rattle.rules.proofs.laws.TestLaws.{and_so}
use Rattle.complex.specs.Complex.{WordWithin}
use Rattle.rules.specs.Constants.{zero_f, power_limit, total_limit}
use Rattle.rules.specs.Guard.{magnitude, Usable}
use Rattle.rules.proofs.laws.SizeLaws.{within_size, word_limited}
use Rattle.rules.specs.Refusals.{within_limit}
use Rattle.rules.specs.Sort.{sort}
use Rattle.rules.proofs.laws.SortLaws.{all_get_d, sort_length}
use Rattle.rules.specs.Impulse.{Setting, standard, window_size, next_judged}
use Rattle.stage_log.specs.Check.{all_to}
use Rattle.stage_log.proofs.laws.CheckLaws.{all_of}
use Rattle.impulse_pause.specs.declared.PauseEdition.{PauseEdition}
use Rattle.impulse.specs.declared.Run.{Run}
use Rattle.impulse.specs.declared.ImpulseSuppressor.{ImpulseSuppressor}
use Rattle.impulse.specs.Machine.{fresh}
use Rattle.impulse.specs.Sound.{PowerWithin, Sound}
use Rattle.impulse.proofs.laws.StateBounds.{state_sound}
use Rattle.impulse.proofs.laws.Theorem.{state_of}
use Rattle.impulse_arrays.specs.Fits.{window_held, pending_held, power_fits, powers_fit, samples_fit, arrays_fit, sorted_fits}
use Rattle.chain_state.specs.Fits.{counter, run_fits, left_fits, gate_fits, running_fits, suppressor_fits}

-- ---- a sample and a power

pub word_good : (w : ℕ) → WordWithin (2 ^ 59) w → within_limit w ≡ true
word_good w h = is_true (within_limit w) (word_limited w (2 ^ 59) (lit≤ tt) h)

power_limit_lem : (p : Float) → PowerWithin p → T (le (magnitude p) power_limit)
unfolding of_bits
power_limit_lem p h = within_size p 6776263578034403 (pos 67) (within_mono p (2 ^ 115) 1 (6776263578034403 * 2 ^ 67) 1 (lit< tt) (lit≤ tt) h.0)

pub power_good : (p : Float) → PowerWithin p → power_fits p ≡ true
unfolding power_fits
power_good p h = and_so (sign_clear p) (le (magnitude p) power_limit) (is_true (sign_clear p) h.1.0) (is_true (le (magnitude p) power_limit) (power_limit_lem p h))

-- ---- the gate

run_good : (o : Option Run) (j : ℕ) → ((r : Run) → o ≡ Some r → (0 < r.len) × (r.start + r.len ≡ j)) → run_fits o j ≡ true
run_good None j h = refl
run_good (Some r) j h = let p = h r refl in
    and_so (ltb 0 r.len) (eqb (r.start + r.len) j) (lt-ltb 0 r.len p.0) (eq-eqb (r.start + r.len) j p.1)

left_good : (l : Option ℕ) → ((x : ℕ) → l ≡ Some x → WordWithin (2 ^ 59) x) → left_fits l ≡ true
left_good None h = refl
left_good (Some x) h = word_good x (h x refl)

module _ (b : ℕ) (a : Bool) (n : ℕ) (m : ImpulseSuppressor) (p : Sound (standard b a) n m) (h : n ≤ total_limit) where
  pub sound_gate : gate_fits m.gate ≡ true
  unfolding gate_fits
  sound_gate =
      let g = m.gate in
      let received : counter g.received ≡ true = le-leb g.received (2 ^ 52) (omega (arith, p.received)) in
      let block : counter g.block.number ≡ true = le-leb g.block.number (2 ^ 52) (omega (arith, p.block)) in
      let flags : counter g.block.flagged ≡ true = le-leb g.block.flagged (2 ^ 52) (omega (arith, p.flags)) in
      let run : run_fits g.mending.run (next_judged g.received) ≡ true = ap (λ (k : ℕ). run_fits g.mending.run (next_judged k)) p.received
      ∙ run_good g.mending.run (next_judged n) p.run in
      let left : left_fits g.mending.left ≡ true = left_good g.mending.left p.left in
      λ i. received i && block i && flags i && run i && left i

  powers : powers_fit (window_held m.gate.received) m.window ≡ true
  powers =
      all_of (λ k. power_fits (get_or m.window k zero_f)) (window_held m.gate.received)
      (λ k l. power_good (get_or m.window k zero_f) (all_get_d PowerWithin m.window k zero_f p.powers (omega (arith, p.window_length_lem))))

  samples : samples_fit (pending_held m.gate.received) m.pending ≡ true
  samples =
      all_of (λ k. within_limit (get_or m.pending k 0)) (pending_held m.gate.received)
      (λ k l. word_good (get_or m.pending k 0) (all_get_d (WordWithin (2 ^ 59)) m.pending k 0 p.pending (omega (arith, p.pending_length))))

  sound_arrays : arrays_fit m.gate.received m.window m.pending ≡ true
  unfolding arrays_fit
  sound_arrays = λ i. powers i && samples i

  -- the sorted list begins with the window sorted
  sorted_begins : (k : ℕ) → k < window_held m.gate.received
      → get_or m.sorted k zero_f ≡ get_or (sort lt (take (window_held m.gate.received) m.window)) k zero_f
  sorted_begins k q =
      let held : min n window_size ≡ window_held m.gate.received = omega (arith, p.received) in
      let l = sort lt (take (min n window_size) m.window) in
      let long : length l ≡ min n window_size = sort_length lt (take (min n window_size) m.window)
      ∙ length-take-le (min n window_size) m.window (omega (arith, p.window_length_lem)) in
      ap (λ (t : List Float). get_or t k zero_f) p.sorted
      ∙ get_or-append l (replicate (window_size - length l) zero_f) zero_f k (omega (arith, long, held))
      ∙ ap (λ (j : ℕ). get_or (sort lt (take j m.window)) k zero_f) held

  ordered : sorted_fits (window_held m.gate.received) m.window m.sorted ≡ true
  unfolding sorted_fits
  ordered =
      let l = sort lt (take (window_held m.gate.received) m.window) in
      all_of (λ k. eqb (to_bits binary64 (get_or m.sorted k zero_f)) (to_bits binary64 (get_or l k zero_f))) (window_held m.gate.received)
      (λ k q. eq-eqb (to_bits binary64 (get_or m.sorted k zero_f)) (to_bits binary64 (get_or l k zero_f)) (ap (to_bits binary64) (sorted_begins k q)))

  sound_running : running_fits m n ≡ true
  unfolding running_fits
  sound_running = let r = eq-eqb m.gate.received n p.received in λ i. r i && ordered i

  pub sound_suppressor : suppressor_fits m true n ≡ true
  unfolding suppressor_fits
  sound_suppressor = λ i. sound_arrays i && sound_running i

-- ---- THE STAGE after usable samples, and before any

module _ (b : ℕ) (a : Bool) (ed : PauseEdition) (xs : List ℕ) (u : Usable xs) (h : length xs ≤ total_limit) where
  sound : Sound (standard b a) (length xs) (state_of (standard b a) ed xs)
  sound = state_sound (standard b a) (lit≤ tt) ed xs u (length xs) (omega arith)

  pub gate_good : gate_fits (state_of (standard b a) ed xs).gate ≡ true
  gate_good = sound_gate b a (length xs) (state_of (standard b a) ed xs) sound h

  pub suppressor_good : suppressor_fits (state_of (standard b a) ed xs) true (length xs) ≡ true
  suppressor_good = sound_suppressor b a (length xs) (state_of (standard b a) ed xs) sound h

pub fresh_gate_good : (s : Setting) (ed : PauseEdition) → gate_fits (fresh s ed).gate ≡ true
unfolding gate_fits
fresh_gate_good s ed = let c : counter 0 ≡ true = le-leb 0 (2 ^ 52) (lit≤ tt) in λ i. c i && c i && c i && true && true

-- the arrays hold nothing yet
pub fresh_suppressor_good : (s : Setting) (ed : PauseEdition) (seen : ℕ) → suppressor_fits (fresh s ed) false seen ≡ true
unfolding suppressor_fits arrays_fit all_to
fresh_suppressor_good s ed seen = refl
