-- Repair undo by the answers of its tests. Assumes nothing.
use Rattle.std.specs.Prelude.{◌≡◌, refl, Bool, true, false, not, cond, List, [], ◌∷◌, ℕ, ◌*◌, eqb, length}
use Rattle.std.proofs.Common.{sym, ◌∙◌}
use Rattle.std.proofs.Math.Path.{ap}
use Rattle.rules.specs.Answers.{Said, accepted, refused}
use Rattle.rules.specs.Refusals.{first_of}
use Rattle.rules.specs.Log.{Sound, repair_width}
use Rattle.rules.specs.Undo.{undone_all}
use Rattle.stage_log.specs.View.{ring_in}
use Rattle.stage_log.proofs.laws.CheckLaws.{ring_range}
use Rattle.chain_state.specs.declared.InputConditioner.{InputConditioner}
use Rattle.chain_state.specs.Fits.{state_fits}
use Rattle.chain_state.proofs.laws.FitsLaws.{state_fit}
use Rattle.chain_undo.specs.Undoing.{records_fit, records_of, undo_refusal, Outcome, undo_of}

-- its number by the answers of its tests
abbrev pub undo_number : Bool → Bool → Bool → ℕ
undo_number fits long records = cond (not fits) 5 (cond (not long) 4 (cond (not records) 5 0))

-- what a function answers and leaves, as the definition has it
abbrev pub Is : Outcome → Said (Unit {0}) → List ℕ → Type 0
Is o s samples = (s ≡ o.said) × (samples ≡ o.samples)

module _ (c : InputConditioner) (repairs : List ℕ) where
  pub refusal_by : (f l r : Bool) → state_fits c ≡ f → eqb (length repairs) (repair_width * c.settings.repairs) ≡ l → records_fit (records_of c repairs) ≡ r
      → undo_refusal c repairs ≡ undo_number f l r
  unfolding undo_refusal first_of
  refusal_by f l r a1 a2 a3 = λ i. undo_number (a1 i) (a2 i) (a3 i)

  module _ (samples : List ℕ) (first : ℕ) where
    abbrev outcome : ℕ → Outcome
    outcome n =
        cond (eqb n 0) (record { said = accepted tt; samples = undone_all first (records_of c repairs) samples })
        (record { said = refused (n ∷ []); samples = samples })

    -- the outcome by its number
    pub outcome_by : (n : ℕ) → undo_refusal c repairs ≡ n → undo_of c repairs samples first ≡ outcome n
    unfolding undo_of
    outcome_by n e = ap outcome e

    is_by : (s : Said (Unit {0})) (ys : List ℕ) → undo_of c repairs samples first ≡ record { said = s; samples = ys } → Is (undo_of c repairs samples first) s ys
    is_by s ys e = (sym (ap (λ (o : Outcome). o.said) e), sym (ap (λ (o : Outcome). o.samples) e))

    pub unfit_state : state_fits c ≡ false → Is (undo_of c repairs samples first) (refused (5 ∷ [])) samples
    unfit_state f = is_by (refused (5 ∷ [])) samples (outcome_by 5 (refusal_by false _ _ f refl refl))

    pub wrong_length : state_fits c ≡ true → eqb (length repairs) (repair_width * c.settings.repairs) ≡ false
        → Is (undo_of c repairs samples first) (refused (4 ∷ [])) samples
    wrong_length f l = is_by (refused (4 ∷ [])) samples (outcome_by 4 (refusal_by true false _ f l refl))

    pub unfit_records : state_fits c ≡ true → eqb (length repairs) (repair_width * c.settings.repairs) ≡ true → records_fit (records_of c repairs) ≡ false
        → Is (undo_of c repairs samples first) (refused (5 ∷ [])) samples
    unfit_records f l r = is_by (refused (5 ∷ [])) samples (outcome_by 5 (refusal_by true true false f l r))

    pub all_undone : (ys : List ℕ) → state_fits c ≡ true → eqb (length repairs) (repair_width * c.settings.repairs) ≡ true
        → records_fit (records_of c repairs) ≡ true
        → ys ≡ undone_all first (records_of c repairs) samples → Is (undo_of c repairs samples first) (accepted tt) ys
    all_undone ys f l r u =
        is_by (accepted tt) ys
        (outcome_by 0 (refusal_by true true true f l r) ∙ ap (λ (zs : List ℕ). record { said = accepted tt; samples = zs }) (sym u))

  -- the repair ring of a fit state, with a store of the right length
  pub ring_sound : state_fits c ≡ true → length repairs ≡ repair_width * c.settings.repairs
      → Sound repair_width c.settings.repairs (ring_in c.notes.repairs repairs)
  ring_sound f l =
      let t = state_fit c f in
      let r = ring_range c.settings.repairs c.notes.repairs c.notes.longruns t.repairs in
      record { some = t.settings.some_repairs; long = l; head_in = r.head_in; count_in = r.count_in }
