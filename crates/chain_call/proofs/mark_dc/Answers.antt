-- `chain_call::mark_dc` notes what is released, as the mode has it. Assumes nothing.
use mathlib.Core.Path.{◌≡◌, sym, ap, ◌∙◌}
use mathlib.Core.Logic.{◌⊎◌, inl, inr}
use Prim.Native.Nat.{ℕ, ◌^◌, ◌<◌, ◌≤◌}
use native.Mathlib.Omega.{arith}
use lib.Dec.{lit<}
use Rattle.rules.specs.Log.{Span, span_of}
use Rattle.rules.specs.Mode.{Mode}
use Rattle.rules.specs.Constants.{total_limit}
use Rattle.stage_log.specs.View.{Logged, span_in}
use Rattle.stage_log.specs.Ready.{Fits, Bounded}
use Rattle.stage_log.proofs.laws.CheckLaws.{bounded_fits}
use Rattle.stage_mode.specs.declared.StageMode.{StageMode}
use Rattle.stage_mode.specs.declared.StageMode.TheVariants.{Off, Observe}
use Rattle.stage_mode.specs.View.{mode_of}
use Rattle.chain.specs.Stages.{noted_dc}
use Rattle.chain_call.proofs.mark_dc.Goals as goal

-- room for the mark
room : (cap : ℕ) (x : Logged) (k start ready : ℕ) → k < 12 → Bounded cap (2 ^ 54) x → (start ≤ 2 ^ 52) × (ready ≤ total_limit)
    → Fits cap x k (span_of start ready)
room cap x k start ready h b l = let s = l.0 in let r = l.1 in bounded_fits cap (2 ^ 54) x k (span_of start ready) b h (omega arith) (omega arith)

-- what is noted, by the mode
noted : (cap : ℕ) (x : Logged) (start ready : ℕ) {m t : Mode} {y : Logged} → m ≡ t → y ≡ noted_dc cap t x (span_of start ready)
    → y ≡ noted_dc cap m x (span_of start ready)
noted cap x start ready e h = h ∙ sym (ap (λ (s : Mode). noted_dc cap s x (span_of start ready)) e)

pub mark-requires : goal.mark-requires
mark-requires c = room _ _ 6 _ _ (lit< tt) c.requires.bounded c.requires.start_bound

-- nothing, where nothing is marked
none : (cap : ℕ) (x : Logged) (m : StageMode) (s : Span) → (m ≡ Off) ⊎ (m ≡ Observe) → x ≡ noted_dc cap (mode_of m) x s
none cap x m s (inl e) = rw e
none cap x m s (inr e) = rw e

pub returns-in-Off : goal.returns-in-Off
returns-in-Off c =
    let a = c.args in
    none a.capacity (record { log = a.log.now; spans = a.spans.now }) a.mode (span_in a.span) c.in-Off.is

pub returns-in-Apply : goal.returns-in-Apply
returns-in-Apply c =
    let a = c.args in
    noted _ (record { log = a.log.now; spans = a.spans.now }) _ _ (ap mode_of c.in-Apply.is)
    c.mark.ensures
