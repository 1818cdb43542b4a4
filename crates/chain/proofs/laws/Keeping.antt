-- An accepted call is not refused, and one that is not accepted leaves the chain. Assumes nothing.
use Rattle.std.specs.Prelude.{◌≡◌, Bool, cond, List, ℕ}
use Rattle.std.proofs.Math.Path.{refl}
use Rattle.std.proofs.Common.{sym}
use Rattle.std.proofs.Math.Bool.{true, false}
use Rattle.std.proofs.lemmas.Bool.{false≢true}
use Rattle.std.proofs.Math.Dec.{eqb}
use borrow.Author.Tests.{eqb-true}
use Rattle.rules.specs.Answers.{is_accepted}
use Rattle.rules.specs.Refusals.{unusable_at}
use Rattle.amplitude_limit.specs.Limit.{returned}
use Rattle.chain.specs.Stages.{Machine, new_part}
use Rattle.chain.specs.Calls.{call_refusal, Outcome, taken, declined, called}

module _ (m : Machine) (slice : List ℕ) where
  abbrev by : Bool → Outcome
  by b = cond b (taken m slice)
      (declined m slice (returned (call_refusal m.state slice m.spans m.repairs) (unusable_at m.state.counts.held (new_part m.state slice))))

  -- an accepted call is not refused
  pub ready_none : is_accepted (called m slice).said ≡ true → call_refusal m.state slice m.spans m.repairs ≡ 0
  unfolding called
  ready_none e = go (eqb (call_refusal m.state slice m.spans m.repairs) 0) refl e
    where
      go : (b : Bool) → eqb (call_refusal m.state slice m.spans m.repairs) 0 ≡ b → is_accepted (by b).said ≡ true
          → call_refusal m.state slice m.spans m.repairs ≡ 0
      go true q h = eqb-true _ 0 q
      go false q h = absurd (false≢true h)

  -- one that is refused leaves all
  pub refused_keeps : is_accepted (called m slice).said ≡ false → (called m slice).machine ≡ m
  unfolding called
  refused_keeps e = go (eqb (call_refusal m.state slice m.spans m.repairs) 0) e
    where
      go : (b : Bool) → is_accepted (by b).said ≡ false → (by b).machine ≡ m
      go true h = absurd (false≢true (sym h))
      go false h = refl
