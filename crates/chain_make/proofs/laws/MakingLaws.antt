-- What the chain settles stands in the code's type as in the rules'; making's answer by its tests. Assumes nothing.
use Rattle.std.specs.Prelude.{◌≡◌, refl, Bool, false, cond, ℕ, zero, suc, eqb, Option, Some, None, Result, Ok, Err}
use Rattle.std.proofs.Common.{ap, sym, ◌∙◌}
use Rattle.std.proofs.lemmas.Bool.{false≢true}
use Rattle.rules.specs.Iq.{Settled, Off, Observing, Withheld, Correcting}
use Rattle.rules.specs.Chain.{Config}
use Rattle.iq.specs.declared.Iq.{Iq}
use Rattle.iq.specs.declared.Iq.TheVariants as decision
use Rattle.iq.specs.View.{settled_of}
use Rattle.rules.specs.Answers.{number_in}
use Rattle.refusal.specs.declared.Refusal.{Refusal}
use Rattle.refusal.specs.Words.{words_of}
use Rattle.chain_config.specs.Config.{all_off, refusal}
use Rattle.chain_config.proofs.laws.ConfigLaws.{refusal_numbered}
use Rattle.chain_state.specs.declared.InputConditioner.{InputConditioner}
use Rattle.chain_make.specs.Making.{iq_of, IfMade, nothing, refused, numbered, making_said}

pub iq_again : (i : Iq) → iq_of (settled_of i) ≡ i
iq_again decision.Off = refl
iq_again decision.Observing = refl
iq_again (decision.Correcting r) = refl
iq_again decision.Withheld = refl

pub settled_again : (s : Settled) → settled_of (iq_of s) ≡ s
settled_again Off = refl
settled_again Observing = refl
settled_again (Correcting r) = refl
settled_again Withheld = refl

-- the answer by whether all is off
pub said_by : (c : Config) (spans repairs words : ℕ) (t : Bool) → all_off c ≡ t
    → making_said c spans repairs words ≡ cond t nothing (numbered (refusal c spans repairs words))
unfolding making_said
said_by c spans repairs words t e = ap (λ (b : Bool). cond b nothing (numbered (refusal c spans repairs words))) e

-- a number that is not 0 refuses
numbered_by : (n : ℕ) → eqb n 0 ≡ false → numbered n ≡ refused n
numbered_by zero h = absurd (false≢true (sym h))
numbered_by (suc k) h = refl

pub numbered_refusal : (e : Refusal) → numbered (number_in (words_of e)) ≡ refused (number_in (words_of e))
numbered_refusal e = numbered_by (number_in (words_of e)) (refusal_numbered e)

-- the state that was made is another that it equals
pub if_made_along : (r : Result (Option InputConditioner) Refusal) {s t : InputConditioner} → s ≡ t → IfMade r (λ x. x ≡ s) → IfMade r (λ x. x ≡ t)
if_made_along (Ok None) e h = tt
if_made_along (Ok (Some x)) e h = h ∙ e
if_made_along (Err x) e h = tt
