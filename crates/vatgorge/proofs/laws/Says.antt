-- The words after an operation say the chain's next state. Assumes nothing.
use Rattle.std.specs.Prelude.{◌≡◌, refl, Bool, true, false, cond, List, ℕ, eqb, Result, Ok, Err}
use Rattle.std.proofs.Common.{sym}
use Rattle.rules.specs.Answers.{is_accepted, number_in}
use Rattle.chain_state.specs.declared.InputConditioner.{InputConditioner}
use Rattle.refusal.specs.declared.Refusal.{Refusal}
use Rattle.refusal.specs.declared.Refusal.TheVariants as why
use Rattle.refusal.specs.Words.{words_of}
use Rattle.iq_monitor.specs.declared.Heard.{Heard}
use Rattle.iq_monitor.specs.declared.Heard.TheVariants as heard
use Rattle.iq_monitor.specs.Observe.{said}
use Rattle.chain_words.specs.States.{state_of}
use Rattle.vatgorge.specs.Codes.{state_after}
use Rattle.vatgorge.specs.Hop.{code_of}

-- an operation that is not accepted leaves the state
pub says : (code : ℕ) (ws : List ℕ) (s : InputConditioner) → (eqb code 0 ≡ false → s ≡ state_of ws) → state_after code ws s ≡ s
says code ws s keeps = go (eqb code 0) refl
  where
    go : (b : Bool) → eqb code 0 ≡ b → cond b s (state_of ws) ≡ s
    go true e = refl
    go false e = sym (keeps e)

-- 0 is accepted, and nothing else is
pub hop_zero : (a : Result Heard Refusal) → is_accepted (said a) ≡ eqb (code_of (said a)) 0
hop_zero (Ok heard.Nothing) = refl
hop_zero (Ok heard.NoReport) = refl
hop_zero (Ok (heard.Report e)) = refl
hop_zero (Err e) = not_zero e
  where
    not_zero : (e : Refusal) → false ≡ eqb (number_in (words_of e)) 0
    not_zero why.BadRate = refl
    not_zero why.BadSize = refl
    not_zero why.BadCapacity = refl
    not_zero why.BadLength = refl
    not_zero why.BadState = refl
    not_zero why.Short = refl
    not_zero (why.OutOfRange k) = refl
    not_zero why.TooMany = refl
    not_zero why.Early = refl
    not_zero why.BadCoefficient = refl
    not_zero why.BadGain = refl
    not_zero why.BadPhase = refl
    not_zero why.BadCentre = refl
    not_zero why.BadHeader = refl
    not_zero why.BrokenTail = refl
