-- `chain_call::mark_iq` notes what is released, as IQ was settled. Assumes nothing.
use mathlib.Core.Path.{◌≡◌, sym, ap, ◌∙◌}
use mathlib.Core.Logic.{◌⊎◌, inl, inr}
use Prim.Native.Nat.{ℕ, ◌^◌, ◌<◌, ◌≤◌}
use native.Mathlib.Omega.{arith}
use lib.Dec.{lit<}
use Rattle.rules.specs.Log.{Span, span_of}
use Rattle.rules.specs.Iq.{Settled}
use Rattle.rules.specs.Constants.{total_limit}
use Rattle.stage_log.specs.View.{Logged, span_in}
use Rattle.stage_log.specs.Ready.{Fits, Bounded}
use Rattle.stage_log.proofs.laws.CheckLaws.{bounded_fits}
use Rattle.iq.specs.declared.Iq.{Iq}
use Rattle.iq.specs.declared.Iq.TheVariants.{Off, Observing}
use Rattle.iq.specs.View.{settled_of}
use Rattle.chain.specs.Stages.{noted_iq}
use Rattle.chain_call.proofs.mark_iq.Goals as goal

-- room for the mark
room : (cap : ℕ) (x : Logged) (k start ready : ℕ) → k < 12 → Bounded cap (2 ^ 55) x → (start ≤ 2 ^ 52) × (ready ≤ total_limit)
    → Fits cap x k (span_of start ready)
room cap x k start ready h b l = let s = l.0 in let r = l.1 in bounded_fits cap (2 ^ 55) x k (span_of start ready) b h (omega arith) (omega arith)

-- what is noted, by what is settled
noted : (cap : ℕ) (x : Logged) (start ready : ℕ) {m t : Settled} {y : Logged} → m ≡ t → y ≡ noted_iq cap t x (span_of start ready)
    → y ≡ noted_iq cap m x (span_of start ready)
noted cap x start ready e h = h ∙ sym (ap (λ (s : Settled). noted_iq cap s x (span_of start ready)) e)

pub mark-requires : goal.mark-requires
mark-requires c = room _ _ 10 _ _ (lit< tt) c.requires.bounded c.requires.start_bound

pub mark-requires-in-Withheld : goal.mark-requires-in-Withheld
mark-requires-in-Withheld c = room _ _ 11 _ _ (lit< tt) c.requires.bounded c.requires.start_bound

-- nothing, where nothing is marked
none : (cap : ℕ) (x : Logged) (m : Iq) (s : Span) → (m ≡ Off) ⊎ (m ≡ Observing) → x ≡ noted_iq cap (settled_of m) x s
none cap x m s (inl e) = rw e
none cap x m s (inr e) = rw e

pub returns-in-Off : goal.returns-in-Off
returns-in-Off c =
    let a = c.args in
    none a.capacity (record { log = a.log.now; spans = a.spans.now }) a.iq (span_in a.span) c.in-Off.is

pub returns-in-Correcting : goal.returns-in-Correcting
returns-in-Correcting c =
    let a = c.args in
    noted _ (record { log = a.log.now; spans = a.spans.now }) _ _ (ap settled_of c.in-Correcting.is)
    c.mark.ensures

pub returns-in-Withheld : goal.returns-in-Withheld
returns-in-Withheld c =
    let a = c.args in
    noted _ (record { log = a.log.now; spans = a.spans.now }) _ _ (ap settled_of c.in-Withheld.is)
    c.mark-in-Withheld.ensures
