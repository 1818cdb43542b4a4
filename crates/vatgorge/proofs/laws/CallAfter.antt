-- What vg_condition leaves. Assumes nothing.
use Rattle.std.specs.Prelude.{◌≡◌, refl, Bool, true, false, cond, List, [], ◌∷◌, ℕ, zero, suc, eqb, Result, Ok, Err}
use Rattle.std.proofs.Common.{sym, subst, ap, ◌∙◌}
use Rattle.std.proofs.lemmas.Bool.{false≢true}
use Rattle.rules.specs.Answers.{Said, accepted, refused, number_of}
use Rattle.amplitude_limit.specs.Limit.{returned}
use Rattle.refusal.specs.declared.Refusal.{Refusal}
use Rattle.refusal.specs.Words as words
use Rattle.refusal.specs.Words.{said_by}
use Rattle.chain_state.specs.declared.InputConditioner.{InputConditioner}
use Rattle.chain.specs.Stages.{Machine, machine_of, new_part}
use Rattle.rules.specs.Refusals.{unusable_at}
use Rattle.chain.specs.Calls.{told_unread, call_refusal, taken, declined, called}
use Rattle.chain.proofs.laws.CallTests.{Is}
use Rattle.chain_words.specs.States.{state_of}
use Rattle.chain_words.specs.Words.{words_of}
use Rattle.vatgorge.specs.Codes.{state_after}
use Rattle.vatgorge.specs.Condition.{After, called_in, after, out_after}

-- the number of an answer is that of what it says
pub number_said : (r : Result ℕ Refusal) → words.number_of r ≡ number_of (said_by accepted r)
number_said (Ok k) = refl
number_said (Err e) = refl

-- a call that is refused leaves the chain
refused_stays : (m : Machine) (xs : List ℕ) → eqb (number_of (called m xs).said) 0 ≡ false → (called m xs).machine ≡ m
unfolding called
refused_stays m xs e = go (eqb n 0) e
  where
    n : ℕ
    n = call_refusal m.state xs m.spans m.repairs

    place : ℕ
    place = unusable_at m.state.counts.held (new_part m.state xs)

    go : (b : Bool) → eqb (number_of (cond b (taken m xs) (declined m xs (returned n place))).said) 0 ≡ false
        → (cond b (taken m xs) (declined m xs (returned n place))).machine ≡ m
    go true e = absurd (false≢true (sym e))
    go false e = refl

module _ (ws samples spans repairs : List ℕ) where
  -- the state's words say the call's chain, written or not
  pub kept_chain : (code : ℕ) (next : InputConditioner) (sp rp : List ℕ) → code ≡ number_of (called_in ws samples spans repairs).said
      → machine_of next sp rp ≡ (called_in ws samples spans repairs).machine
      → machine_of (state_after code ws next) sp rp ≡ (called_in ws samples spans repairs).machine
  kept_chain code next sp rp told chain = go (eqb code 0) refl
    where
      go : (b : Bool) → eqb code 0 ≡ b → machine_of (cond b next (state_of ws)) sp rp ≡ (called_in ws samples spans repairs).machine
      go true e = chain
      go false e =
          let stays = refused_stays (machine_of (state_of ws) spans repairs) samples (sym (ap (λ (k : ℕ). eqb k 0) told) ∙ e) in
          (λ i. machine_of (state_of ws) (chain i).spans (chain i).repairs)
          ∙ (λ i. machine_of (state_of ws) (stays i).spans (stays i).repairs)
          ∙ sym stays

module _ (ws samples spans repairs out : List ℕ) {c : InputConditioner} (read : c ≡ state_of ws) where
  -- the answer and every lent word, and the chain that they say
  abbrev Leaves : After → Machine → Type 0
  Leaves left m = (left ≡ after ws samples spans repairs out) × (m ≡ (called_in ws samples spans repairs).machine)

  abbrev Refused : Said ℕ → InputConditioner → Type 0
  Refused s d = let m = machine_of d spans repairs in Is (called m samples) s m samples

  -- a refused call leaves all but the place
  pub declined_after : (s : Said ℕ) → eqb (number_of s) 0 ≡ false → Refused s c
      → Leaves (record { code = number_of s; state = ws; samples = samples; spans = spans; repairs = repairs; out = out_after out s })
      (machine_of (state_of ws) spans repairs)
  declined_after s some declined =
      let d = subst (Refused s) read declined in
      let told = d.0 in
      let machine = d.1.0 in
      let zero = sym some ∙ ap (λ (x : Said ℕ). eqb (number_of x) 0) told in (
        λ i. record {
          code = number_of (told i);
          state = cond (zero i) (words_of (machine i).state) ws;
          samples = d.1.1 i;
          spans = (machine i).spans;
          repairs = (machine i).repairs;
          out = out_after out (told i);
        },
        machine,
      )

  -- what is refused unread leaves that too
  pub unread_after : (n : ℕ) → eqb n 0 ≡ false → Refused (told_unread n) c
      → Leaves (record { code = n; state = ws; samples = samples; spans = spans; repairs = repairs; out = out }) (machine_of (state_of ws) spans repairs)
  unread_after zero some d = absurd (false≢true (sym some))
  unread_after (suc k) some d = declined_after (refused (suc k ∷ [])) some d
