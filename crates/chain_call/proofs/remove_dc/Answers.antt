-- `chain_call::remove_dc` runs the blocker over what is ready, as its mode has it. Assumes nothing.
use mathlib.Core.Path.{◌≡◌, sym, ap, ◌∙◌}
use mathlib.Core.List.{List, ◌++◌}
use Prim.Native.Nat.{ℕ, ◌+◌, ◌^◌, ◌<◌, ◌≤◌}
use native.Mathlib.Omega.{arith}
use lib.ListN.{length, take, drop, take-append-drop}
use lib.Seq.{length-take-le}
use Rattle.rules.specs.Mode.{Mode}
use Rattle.dc.specs.declared.DcBlocker.{DcBlocker}
use Rattle.dc.specs.Blocker.{Blocked}
use Rattle.stage_mode.specs.View.{mode_of}
use Rattle.chain.specs.Stages.{dc_after, blocked_by}
use Rattle.chain_call.proofs.remove_dc.Goals as goal

-- the samples that are ready leave the count of updates room
room : (n ready : ℕ) (xs : List ℕ) → ready ≤ length xs → n + ready < 2 ^ 64 → n + length (take ready xs) < 2 ^ 64
room n ready xs h r = let l = length-take-le ready xs h in omega arith

-- a blocker and a count as one
joined : {b b' : DcBlocker} {n n' : ℕ} → b ≡ b' → n ≡ n' → ◌≡◌ {A = Blocked} (record { blocker = b; clamped = n }) (record { blocker = b'; clamped = n' })
joined e f = λ i. record { blocker = e i; clamped = f i }

-- what is written, by the mode
written : (b : DcBlocker) (xs : List ℕ) (ready : ℕ) {m t : Mode} {ys : List ℕ} → t ≡ m → ys ≡ blocked_by t b (take ready xs) ++ drop ready xs
    → ys ≡ blocked_by m b (take ready xs) ++ drop ready xs
written b xs ready e h = h ∙ ap (λ (s : Mode). blocked_by s b (take ready xs) ++ drop ready xs) e

pub slice_bounds-observe-end-in-Observe : goal.slice_bounds-observe-end-in-Observe
slice_bounds-observe-end-in-Observe c = sym (length-take-le _ _ c.requires.ready_in_bounds)

pub observe-requires : goal.observe-requires
observe-requires c =
    room c.args.blocker.now.n _ _ c.requires.ready_in_bounds c.requires.ready_bound

pub slice_bounds-process-end-in-Apply : goal.slice_bounds-process-end-in-Apply
slice_bounds-process-end-in-Apply c = sym (length-take-le _ _ c.requires.ready_in_bounds)

pub process-requires : goal.process-requires
process-requires c =
    room c.args.blocker.now.n _ _ c.requires.ready_in_bounds c.requires.ready_bound

pub returns-in-Off : goal.returns-in-Off
returns-in-Off c =
    let a = c.args in
    let m = ap mode_of c.in-Off.is in
    record {
      after = sym (ap (λ (t : Mode). dc_after t a.blocker.now (take a.ready a.samples.now)) m);
      written = written a.blocker.now a.samples.now a.ready (sym m) (sym (take-append-drop a.ready a.samples.now));
    }

pub returns-in-Observe : goal.returns-in-Observe
returns-in-Observe c =
    let a = c.args in
    let e = c.observe.ensures in
    let m = ap mode_of c.in-Observe.is in
    record {
      after = joined e.after e.counted ∙ sym (ap (λ (t : Mode). dc_after t a.blocker.now (take a.ready a.samples.now)) m);
      written = written a.blocker.now a.samples.now a.ready (sym m) (sym (take-append-drop a.ready a.samples.now));
    }

pub returns-in-Apply : goal.returns-in-Apply
returns-in-Apply c =
    let a = c.args in
    let e = c.process.ensures in
    let m = ap mode_of c.in-Apply.is in
    record {
      after = joined e.after e.counted ∙ sym (ap (λ (t : Mode). dc_after t a.blocker.now (take a.ready a.samples.now)) m);
      written =
          written a.blocker.now a.samples.now a.ready (sym m)
          (ap (λ (l : List ℕ). l ++ drop a.ready a.samples.now) e.written);
    }
