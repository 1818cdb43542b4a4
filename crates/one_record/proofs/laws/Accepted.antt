-- What an accepted call and an accepted hop have, and that one that is not accepted leaves all. Assumes nothing.
use Rattle.std.specs.Prelude.{◌≡◌, Bool, cond, List, [], ◌∷◌, ◌++◌, ℕ, zero, suc, ◌+◌, ◌-◌, ◌*◌, T, eqb, ltb, length, Float, Ok, Err}
use Rattle.std.proofs.Math.Path.{refl}
use Rattle.std.proofs.Common.{ap, sym, ◌∙◌, subst, arith, lt-ltb}
use Rattle.std.proofs.Math.Bool.{true, false, false≢true}
use Rattle.rules.specs.Answers.{is_accepted}
use Rattle.rules.specs.Guard.{usable, first_unusable_from, Usable}
use Rattle.rules.specs.Refusals.{too_many, any_unusable, bad_start, any_beyond, first_beyond_from}
use Rattle.rules.proofs.laws.SortLaws.{all_append}
use Rattle.rules.specs.Log.{repair_width, store_width}
use Rattle.stage_log.specs.Check.{ends_fit}
use Rattle.refusal.specs.declared.Refusal.TheVariants as why
use Rattle.iq_monitor.specs.Observe.{said, Seen, leaving, is_none, accepted_of}
use Rattle.iq_monitor.proofs.laws.ObserveLaws.{observed_by}
use Rattle.iq.specs.View.{settled_of}
use Rattle.iq_monitor.specs.declared.Heard.TheVariants as heard
use Rattle.chain_state.specs.declared.InputConditioner.{InputConditioner}
use Rattle.chain_state.specs.Fits.{state_fits}
use Rattle.chain.specs.Stages.{new_part}
use Rattle.chain.specs.Calls.{call_refusal}
use Rattle.chain.proofs.laws.CallTests.{call_number, refusal_by}
use Rattle.chain_hop.specs.Hops.{is_off_iq, watched, hop_refusal, hop_of, by_number, followed}
use Rattle.chain_hop.specs.Hops as hops
use Rattle.chain_hop.proofs.laws.HopLaws.{watched_by}

-- ---- calls

-- all seven tests pass
pub record Passes (c : InputConditioner) (slice spans repairs : List ℕ) : Type 0 where
  pub fits : state_fits c ≡ true
  pub long : ltb (length slice) c.counts.held ≡ false
  pub few : (too_many c.counts.seen (length slice - c.counts.held)).holds ≡ false
  pub fine : (any_unusable c.counts.held (new_part c slice)).holds ≡ false

pub passes : (c : InputConditioner) (slice spans repairs : List ℕ) → call_refusal c slice spans repairs ≡ 0 → Passes c slice spans repairs
passes c slice spans repairs e =
    go (state_fits c) (eqb (length repairs) (repair_width * c.settings.repairs)) (eqb (length spans) (store_width * c.settings.spans))
    (ends_fit c.settings.spans (record { log = c.notes.log; spans = spans }))
    (ltb (length slice) c.counts.held) (too_many c.counts.seen (length slice - c.counts.held)).holds
    (any_unusable c.counts.held (new_part c slice)).holds
    refl refl refl refl (sym (refusal_by c slice spans repairs _ _ _ _ _ _ _ refl refl refl refl refl refl refl) ∙ e)
  where
    go : (f r s n h t u : Bool) → state_fits c ≡ f → ltb (length slice) c.counts.held ≡ h
        → (too_many c.counts.seen (length slice - c.counts.held)).holds ≡ t → (any_unusable c.counts.held (new_part c slice)).holds ≡ u
        → call_number f r s n h t u ≡ 0 → Passes c slice spans repairs
    go true true true true false false false a b d w z = record { fits = a; long = b; few = d; fine = w }
    go true true true true false false true a b d w z = absurd (omega arith)
    go true true true true false true u a b d w z = absurd (omega arith)
    go true true true true true t u a b d w z = absurd (omega arith)
    go true true true false h t u a b d w z = absurd (omega arith)
    go true true false n h t u a b d w z = absurd (omega arith)
    go true false s n h t u a b d w z = absurd (omega arith)
    go false r s n h t u a b d w z = absurd (omega arith)

pub usable_append : (xs ys : List ℕ) → Usable xs → Usable ys → Usable (xs ++ ys)
usable_append xs ys a b = all_append (λ w. T (usable w)) xs ys a b

-- where the scan finds nothing, all are usable
pub scan_usable : (k : ℕ) (ws : List ℕ) → ltb (first_unusable_from k ws) (k + length ws) ≡ false → Usable ws
unfolding first_unusable_from
scan_usable k [] e = tt
scan_usable k (w ∷ ws) e = go (usable w) refl e (scan_usable (suc k) ws)
  where
    go : (b : Bool) → usable w ≡ b → ltb (cond b (first_unusable_from (suc k) ws) k) (k + length (w ∷ ws)) ≡ false
        → (ltb (first_unusable_from (suc k) ws) (suc k + length ws) ≡ false → Usable ws) → Usable (w ∷ ws)
    go true u h rest = (
      subst T (sym u) tt,
      rest (ap (λ (n : ℕ). ltb (first_unusable_from (suc k) ws) n) (let q : suc k + length ws ≡ k + length (w ∷ ws) = omega arith in q) ∙ h),
    )
    go false u h rest = absurd (false≢true (sym h ∙ lt-ltb k (k + length (w ∷ ws)) (omega arith)))

-- ---- hops

module _ (c : InputConditioner) (xs : List ℕ) (start : ℕ) (spans : List ℕ) (ws : List Float) where
  pub record Taken : Type 0 where
    pub none : hop_refusal c spans ws ≡ 0
    pub watching : is_off_iq (settled_of c.settings.iq) ≡ false
    pub some : is_none c.settings.n xs ≡ false
    pub starts : (bad_start c.monitor.end start).holds ≡ false
    pub parts : (any_beyond xs).holds ≡ false

  -- an accepted hop's answer comes only from the end of all tests
  pub answered_taken : is_accepted (said (hop_of c xs start spans ws).answer) ≡ true → Taken
  unfolding hop_of hops.taken
  answered_taken e = number_is (hop_refusal c spans ws) refl e
    where
      Said? : Seen → Type 0
      Said? s = is_accepted (said s.answer) ≡ true

      by_tests : hop_refusal c spans ws ≡ 0 → (o a b d : Bool) → is_off_iq (settled_of c.settings.iq) ≡ o → is_none c.settings.n xs ≡ a
          → (bad_start c.monitor.end start).holds ≡ b → (any_beyond xs).holds ≡ d
          → Said? (cond o (leaving c.monitor ws (Ok heard.Nothing))
          (cond a (leaving c.monitor ws (Ok heard.Nothing))
          (cond b (leaving c.monitor ws (Err why.Early))
          (cond d (leaving c.monitor ws (Err (why.OutOfRange (first_beyond_from 0 xs)))) (accepted_of c.monitor c.settings.fs xs start ws)))))
          → Taken
      by_tests n true a b d p q r s h = absurd (false≢true h)
      by_tests n false true b d p q r s h = absurd (false≢true h)
      by_tests n false false true d p q r s h = absurd (false≢true h)
      by_tests n false false false true p q r s h = absurd (false≢true h)
      by_tests n false false false false p q r s h = record { none = n; watching = p; some = q; starts = r; parts = s }

      number_is : (k : ℕ) → hop_refusal c spans ws ≡ k
          → is_accepted (said (by_number k c spans ws (followed c spans (watched c xs start ws))).answer) ≡ true → Taken
      number_is zero n h =
          let o = is_off_iq (settled_of c.settings.iq) in
          let a = is_none c.settings.n xs in
          let b = (bad_start c.monitor.end start).holds in
          let d = (any_beyond xs).holds in
          by_tests n o a b d refl refl refl refl
          (subst Said?
          (watched_by c xs start ws o refl
          ∙ ap (cond o (leaving c.monitor ws (Ok heard.Nothing)))
          (observed_by c.monitor c.settings.fs c.settings.n xs start ws a b d refl refl refl))
          h)
      number_is (suc k) n h = absurd (false≢true h)
